use Rattle.std.proofs.Common.{Some, None}
use Rattle.collation.specs.Levels.{parent_of}
use Rattle.key_codec.specs.Key.{key_of}
use Rattle.key_codec.proofs.Children.{Behind, behind, apart, no_child, stripped_some, stripped_none}
use Rattle.key_codec.proofs.Showing.{child_first_ok, child_fits_ok}
use Rattle.key_codec.proofs.place.Place.child_toward.Goals as goal

pub first_child-requires : goal.first_child-requires
first_child-requires c =
    let on = stripped_some c.as_slice.result.now c.level.result.now (key_of c.args.key.now) (key_of (parent_of c.args.self.now)) (Some c.in-Some.rest) c.as_slice.ensures.value c.level.ensures.value c.in-Some.ensures.cases in
    let is : Behind (parent_of c.args.self.now) c.args.key.now c.in-Some.rest.now = behind (parent_of c.args.self.now) c.args.key.now c.in-Some.rest.now c.level.ensures.form c.as_slice.ensures.form on in
    record { subscripts = is.more; form = is.bounds; keys = is.bytes }

pub returns-in-Some-clause-child : goal.returns-in-Some-clause-child
returns-in-Some-clause-child c =
    let on = stripped_some c.as_slice.result.now c.level.result.now (key_of c.args.key.now) (key_of (parent_of c.args.self.now)) (Some c.in-Some.rest) c.as_slice.ensures.value c.level.ensures.value c.in-Some.ensures.cases in
    let is : Behind (parent_of c.args.self.now) c.args.key.now c.in-Some.rest.now = behind (parent_of c.args.self.now) c.args.key.now c.in-Some.rest.now c.level.ensures.form c.as_slice.ensures.form on in
    child_first_ok (parent_of c.args.self.now) c.args.key.now c.in-Some.rest.now c.first_child.result is c.first_child.ensures

pub returns-in-Some-clause-fits : goal.returns-in-Some-clause-fits
returns-in-Some-clause-fits c =
    let on = stripped_some c.as_slice.result.now c.level.result.now (key_of c.args.key.now) (key_of (parent_of c.args.self.now)) (Some c.in-Some.rest) c.as_slice.ensures.value c.level.ensures.value c.in-Some.ensures.cases in
    let is : Behind (parent_of c.args.self.now) c.args.key.now c.in-Some.rest.now = behind (parent_of c.args.self.now) c.args.key.now c.in-Some.rest.now c.level.ensures.form c.as_slice.ensures.form on in
    child_fits_ok (parent_of c.args.self.now) c.args.key.now c.in-Some.rest.now c.first_child.result c.level.ensures.form c.as_slice.ensures.form is c.first_child.ensures

pub returns-in-None-clause-child : goal.returns-in-None-clause-child
returns-in-None-clause-child c =
    no_child (parent_of c.args.self.now) c.args.key.now (apart (parent_of c.args.self.now) c.args.key.now (stripped_none c.as_slice.result.now c.level.result.now (key_of c.args.key.now) (key_of (parent_of c.args.self.now)) None c.as_slice.ensures.value c.level.ensures.value c.in-None.ensures.cases))
