use Rattle.std.proofs.Common.{decimal, ap}
use Rattle.std.specs.Fmt.{digits}
use Rattle.script.proofs.reply.digit_of.Goals as goal

pub returns-in-0 : goal.returns-in-0
unfolding digits
returns-in-0 c = ap decimal c.in-0.is

pub returns-in-1 : goal.returns-in-1
unfolding digits
returns-in-1 c = ap decimal c.in-1.is

pub returns-in-2 : goal.returns-in-2
unfolding digits
returns-in-2 c = ap decimal c.in-2.is

pub returns-in-3 : goal.returns-in-3
unfolding digits
returns-in-3 c = ap decimal c.in-3.is

pub returns-in-4 : goal.returns-in-4
unfolding digits
returns-in-4 c = ap decimal c.in-4.is

pub returns-in-5 : goal.returns-in-5
unfolding digits
returns-in-5 c = ap decimal c.in-5.is

pub returns-in-6 : goal.returns-in-6
unfolding digits
returns-in-6 c = ap decimal c.in-6.is

pub returns-in-7 : goal.returns-in-7
unfolding digits
returns-in-7 c = ap decimal c.in-7.is

pub returns-in-8 : goal.returns-in-8
unfolding digits
returns-in-8 c = ap decimal c.in-8.is

pub returns-in-9 : goal.returns-in-9
unfolding digits
returns-in-9 c = ap decimal c.in-9.is
