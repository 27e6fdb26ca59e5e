-- A layer by the lists that it is kept in.
use Rattle.std.proofs.Common.{◌≡◌, Bool, true, sym, ap, subst, ◌∙◌}
use Rattle.std.specs.Prelude.{not}
use Rattle.std.specs.FinMap as finmap
use Rattle.std.specs.FinMap.{FinMap}
use Rattle.collation.specs.Reference.{Reference}
use Rattle.collation.specs.Order.{ref_cmp}
use Rattle.collation.specs.Database.{Database}
use Rattle.command.specs.Data.{takes}
use Rattle.command.specs.declared.access.Extent.{Extent}
use Rattle.workspace.specs.Layers.{Layer, nothing_written, is_killed, with_killed}
use Rattle.workspace.specs.laws.Layering.{KillsTaken, entries_of_empty, killed_covers, killed_more}

abbrev pub layer : Database → FinMap ref_cmp Extent → Layer
layer written d = record { written = written; killed = finmap.entries d }

pub none_kept : (a : Database) (d : FinMap ref_cmp Extent) → a ≡ finmap.empty → d ≡ finmap.empty → layer a d ≡ nothing_written
none_kept a d e f = λ i. record { written = e i; killed = (ap finmap.entries f ∙ entries_of_empty Extent) i }

-- the written values alone have changed
pub put : (f : Database → Database) (old : Layer) (was now : Database) (d : FinMap ref_cmp Extent) → layer was d ≡ old → now ≡ f was → layer now d ≡ record old { written = f old.written }
put f old was now d is e = (λ i. layer (e i) d) ∙ ap (λ (w : Layer). record w { written = f w.written }) is

-- a kill whose all is killed already
pub kills_again : (r : Reference) (extent : Extent) (old : Layer) (was now : Database) (d : FinMap ref_cmp Extent) → layer was d ≡ old → ((y : Reference) → takes extent r y ≡ true → is_killed old.killed y ≡ true) → now ≡ finmap.retain_keys was (λ x. not (takes extent r x))
    → KillsTaken r extent old (layer now d)
kills_again r extent old was now d is all e =
    subst (λ w. ((y : Reference) → takes extent r y ≡ true → is_killed w.killed y ≡ true) → KillsTaken r extent w (layer now d)) is
    (λ k. record { written = e; killed = λ x. killed_covers (finmap.entries d) r extent x k }) all

-- another one
pub kills_more : (r : Reference) (extent : Extent) (old : Layer) (was now : Database) (d n : FinMap ref_cmp Extent) → layer was d ≡ old → now ≡ finmap.retain_keys was (λ x. not (takes extent r x)) → n ≡ with_killed d r extent
    → KillsTaken r extent old (layer now n)
kills_more r extent old was now d n is e f =
    subst (λ w. KillsTaken r extent w (layer now n)) is (record { written = e; killed = λ x. ap (λ z. is_killed (finmap.entries z) x) f ∙ killed_more d r extent x })
