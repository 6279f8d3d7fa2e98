-- Of a text that reads: each of 12, 8, 9, 10 and 11 is given exactly when its fact holds and no earlier one does.
--   refusal_facts
--   unread_fact         a text that does not read is refused as reading refuses it
--   nothing_touched     a refusal leaves all that was lent
use Prim.Native.Nat.{ℕ}
use mathlib.Core.Path.{◌≡◌, refl, ap, ◌∙◌, subst}
use mathlib.Core.List.{List}
use lib.IntN.{ℤ}
use Rattle.netlist.specs.declared.Netlist.{Netlist}
use Rattle.netlist.specs.Answer.{Said, value, refused, whole, at_edge, holds}
use Rattle.netlist.specs.Order.{past}
use Rattle.netlist.specs.Read.{Reads}
use Rattle.netlist.specs.Write.{text_of}
use Rattle.netlist.proofs.Order.{decides, later, given_one, stopped}
use Rattle.netlist.proofs.theorems.One.{one_reading}
use Rattle.netlist.proofs.theorems.Sound.{read_is_sound}
use Rattle.moves.specs.Moved.{moved_net}
use Rattle.retime.specs.Retime.{LeastLags, lag_table, MovedBy, Room}
use Rattle.retime.specs.Theorems.{RetimeFacts, RetimeRefusals, UnreadFact, NothingTouched}
use Rattle.retime.specs.inner.Leaves.{FromShort}
use Rattle.retime.proofs.Order.{no_short, no_none, no_wide, no_many, lowest_one, Fact, told, moved_at}
use Rattle.retime.proofs.Call.{left_of}

module _ (t out : List ℕ) (lags : List ℤ) (s : Said) (net : Netlist) (h : Reads t (value 0) net) (r : ℕ → ℤ) (c : ℕ) (row : FromShort out lags net r c s) where
  fact : (x : Said) → s ≡ x → Fact out lags net r c x
  fact x p = subst (Fact out lags net r c) p (told out lags net r c row)

  module _ (room : Room out lags net) (q : ℕ → ℤ) (l : LeastLags net q) where
    from_9 : MovedBy net q c s
    from_9 = moved_at out lags net r c (read_is_sound t net h) room q l row

    fact_of : (x : Said) → s ≡ x → Fact out lags net q c x
    fact_of x p = subst (Fact out lags net q c) p (told out lags net q c (past (no_short room) (past (no_none net q l) from_9)))

  facts : RetimeFacts out lags s net
  facts = record {
    twelve = (fact (whole 12), λ f. decides (given_one _ _) (f, refl) row);
    eight = λ room. (fact (whole 8), λ f. decides (given_one _ _) (f, refl) (later s (no_short room) row));
    nine = λ room q l e. (λ p. (fact_of room q l (at_edge 9 e) p).1, λ f. decides (lowest_one net q) (e, (l, f), refl) (from_9 room q l));
    ten = λ room q l. (fact_of room q l (whole 10), λ (n, f). decides (given_one _ _) ((l, f), refl) (later s (no_wide net q n) (from_9 room q l)));
    eleven = λ room q l n few. (
      λ p. (fact_of room q l (whole 11) p).1,
      λ f. decides (given_one _ _) ((l, f), refl) (later s (no_many net q few) (later s (no_wide net q n) (from_9 room q l))),
    );
  }

-- From a number to its fact: what is said has its fact (`told`). Back: no earlier fact holds, so the row from there on says what is said, and its first fact decides.
pub refusal_facts : RetimeRefusals
refusal_facts t out lags s out' lags' net h o = let x = left_of net h o in facts t out lags s net h x.lag x.choice x.answer

-- Reading has one outcome.
pub unread_fact : UnreadFact
unread_fact t out lags s out' lags' q k p net h o = stopped (one_reading t o.checked (refused q k p) o.net net o.reads h).0 o.answer

pub nothing_touched : NothingTouched
nothing_touched t out lags s out' lags' q k p o e = (
  o.buffer ∙ ap (λ x. holds x (text_of (moved_net o.net o.lag o.choice)) out) e,
  o.table ∙ ap (λ x. holds x (lag_table o.net o.lag) lags) e,
)
