-- `rules::fan_fits` meets its contract: past the last kind the rule is the last one.
use Rattle.std.proofs.Common.{arith, ◌≡◌, ap, ℕ, ◌<◌}
use Rattle.std.specs.Prelude.{Result, Ok, Err}
use Rattle.std.specs.Result.{result_unwrap_or}
use borrow.Author.Tests.{le-ltb}
use Rattle.rules.specs.declared.kind.Kind.{Kind}
use Rattle.rules.specs.declared.kind.Kind.TheVariants.{Selector}
use Rattle.rules.specs.declared.kind.UnknownKind.{UnknownKind}
use Rattle.rules.specs.Kinds.{kind_number, Decodes}
use Rattle.rules.specs.Rules.{rule_of}
use Rattle.rules.proofs.fan_fits.Goals as goal

past : (k : ℕ) → 10 < k → rule_of 10 ≡ rule_of k
unfolding rule_of
past k h = rw (le-ltb k 1 (omega arith), le-ltb k 4 (omega arith), le-ltb k 10 (omega arith), le-ltb k 2 (omega arith))

known : (n : ℕ) (r : Result Kind UnknownKind) → Decodes n r → rule_of (kind_number (result_unwrap_or r Selector)) ≡ rule_of n
known n (Ok k) h = ap rule_of h
known n (Err e) h = past n h.1

pub returns : goal.returns
returns c = rw (c.rule.ensures, c.unwrap_or-known.ensures, known _ _ c.try_from.ensures) at c.allows_ins.ensures
