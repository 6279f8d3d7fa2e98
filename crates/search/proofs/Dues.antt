-- Dues by level.
--   level_none, level_hit, level_miss, level_append     the dues of one level, by the parts of a list
--   level_few           are no more than the list has
--   next_hit, next_miss, level_front     with one due more, of the level or of another; those of a front are no more than all
--   ranked              the dues of the levels below m among the first n: first those of level 0, then those of level 1, …
--   ranked_none, ranked_more     no level, and one more
--   ranked_room         there are never more than n
--   Ranked              what is at one of its places: a due of a level below m
--   ranked_place        each place holds one
--   ranked_grows        more levels, no fewer dues
--   ranked_first        more levels leave the places of the lower ones
--   ranked_holds        every due of a level below m is at some place
-- By the laws of items sorted by key: the items are the places of the dues, the keys their levels.
use Prim.Native.Nat.{ℕ, zero, suc, ◌+◌, ◌/◌, ◌≤◌, ◌<◌}
use native.Mathlib.Omega.{arith}
use native.Mathlib.Decide.{ℕ_discrete}
use native.Mathlib.Numerals.{add-one}
use mathlib.Core.Path.{◌≡◌, refl, sym, ap, ◌∙◌}
use mathlib.Core.List.{List, [], ◌∷◌, ◌++◌, map, map-append, append-nil}
use borrow.Author.Tests.{eq-eqb, ne_eqb}
use lib.ListN.{length, take, drop, length-map, length-append, get_or-append}
use Rattle.std.proofs.lemmas.List.{take-append-drop}
use lib.Seq.{take-suc}
use Rattle.theory.specs.Clock.{gather}
use Rattle.graph.specs.Columns.{at}
use Rattle.graph.specs.inner.Sort.{group, sorted, Stands}
use Rattle.graph.proofs.Sorted.{group_hit, group_miss, sorted_prefix, sorted_grows, sorted_place, sorted_holds, sorted_room}
use Rattle.graph.proofs.Parts.{map_at}
use Rattle.search.specs.inner.Rows.{of_level}

-- ── One level ───────────────────────────────────────────────────────────────────────────────

module _ (level : List ℕ) (m : ℕ) where
  pub level_hit : (y : ℕ) (l : List ℕ) → at level (y / 2) ≡ m → of_level level m (y ∷ l) ≡ y ∷ of_level level m l
  unfolding of_level
  level_hit y l e = rw (eq-eqb (at level (y / 2)) m e)

  pub level_miss : (y : ℕ) (l : List ℕ) → ¬ (at level (y / 2) ≡ m) → of_level level m (y ∷ l) ≡ of_level level m l
  unfolding of_level
  level_miss y l e = rw (ne_eqb (at level (y / 2)) m e)

  pub level_none : of_level level m [] ≡ []
  unfolding of_level
  level_none = refl

  pub level_append : (xs ys : List ℕ) → of_level level m (xs ++ ys) ≡ of_level level m xs ++ of_level level m ys
  level_append [] ys = rw level_none
  level_append (y ∷ xs) ys = go (level_append xs ys) (ℕ_discrete (at level (y / 2)) m)
    where
      go : of_level level m (xs ++ ys) ≡ of_level level m xs ++ of_level level m ys → Dec (at level (y / 2) ≡ m)
          → of_level level m (y ∷ (xs ++ ys)) ≡ of_level level m (y ∷ xs) ++ of_level level m ys
      go e (yes q) = level_hit y (xs ++ ys) q ∙ ap (λ l. y ∷ l) e ∙ ap (λ l. l ++ of_level level m ys) (sym (level_hit y xs q))
      go e (no q) = level_miss y (xs ++ ys) q ∙ e ∙ ap (λ l. l ++ of_level level m ys) (sym (level_miss y xs q))

  level_one : (y : ℕ) → at level (y / 2) ≡ m → of_level level m (y ∷ []) ≡ y ∷ []
  level_one y e = level_hit y [] e ∙ ap (λ l. y ∷ l) level_none

  level_other : (y : ℕ) → ¬ (at level (y / 2) ≡ m) → of_level level m (y ∷ []) ≡ []
  level_other y e = level_miss y [] e ∙ level_none

  pub level_few : (l : List ℕ) → length (of_level level m l) ≤ length l
  level_few [] = rw level_none (omega arith)
  level_few (y ∷ l) = go (level_few l) (ℕ_discrete (at level (y / 2)) m)
    where
      go : length (of_level level m l) ≤ length l → Dec (at level (y / 2) ≡ m) → length (of_level level m (y ∷ l)) ≤ suc (length l)
      go h (yes q) = omega (arith, ap length (level_hit y l q))
      go h (no q) = omega (arith, ap length (level_miss y l q))

  -- With one due more of a list, and with all of them.
  module _ (due : List ℕ) (i : ℕ) where
    next : i < length due → of_level level m (take (i + 1) due) ≡ of_level level m (take i due) ++ of_level level m (at due i ∷ [])
    next h = rw add-one (ap (of_level level m) (take-suc due i 0 h) ∙ level_append (take i due) (at due i ∷ []))

    pub next_hit : i < length due → at level (at due i / 2) ≡ m → of_level level m (take (i + 1) due) ≡ of_level level m (take i due) ++ at due i ∷ []
    next_hit h q = next h ∙ ap (λ l. of_level level m (take i due) ++ l) (level_one (at due i) q)

    pub next_miss : i < length due → ¬ (at level (at due i / 2) ≡ m) → of_level level m (take (i + 1) due) ≡ of_level level m (take i due)
    next_miss h q = next h ∙ ap (λ l. of_level level m (take i due) ++ l) (level_other (at due i) q) ∙ append-nil _

    pub level_front : length (of_level level m (take i due)) ≤ length (of_level level m due)
    level_front = omega (arith, simp length-append at (ap length (ap (of_level level m) (sym (take-append-drop i due)) ∙ level_append (take i due) (drop i due))))

-- ── All levels ──────────────────────────────────────────────────────────────────────────────

-- The level of what each due asks.
abbrev keys : List ℕ → List ℕ → List ℕ
keys level due = map (λ y. at level (y / 2)) due

abbrev pub ranked : List ℕ → List ℕ → ℕ → ℕ → List ℕ
ranked level due n m = map (at due) (sorted (keys level due) n m)

pub record Ranked (level due : List ℕ) (n m y : ℕ) : Type 0 where
  pub stands : Stands due n y
  pub low : at level (y / 2) < m

pub ranked_none : (level due : List ℕ) (n : ℕ) → ranked level due n 0 ≡ []
unfolding sorted
ranked_none level due n = refl

module _ (level due : List ℕ) (n : ℕ) (rows : n ≤ length due) where
  key_at : (i : ℕ) → i < n → at (keys level due) i ≡ at level (at due i / 2)
  key_at i h = map_at (λ y. at level (y / 2)) due i (omega arith)

  level_group : (m i : ℕ) → i ≤ n → of_level level m (take i due) ≡ map (at due) (group (keys level due) m i)
  unfolding gather
  level_group m zero h = level_none level m
  level_group m (suc i) h = go (level_group m i (omega arith)) (ℕ_discrete (at level (at due i / 2)) m)
    where
      go : of_level level m (take i due) ≡ map (at due) (group (keys level due) m i) → Dec (at level (at due i / 2) ≡ m)
          → of_level level m (take (suc i) due) ≡ map (at due) (group (keys level due) m (suc i))
      go e (yes q) =
          (rw add-one at (next_hit level m due i (omega arith) q)) ∙ ap (λ l. l ++ at due i ∷ []) e ∙ sym (map-append (at due) (group (keys level due) m i) (i ∷ []))
          ∙ ap (map (at due)) (sym (group_hit (keys level due) m i (key_at i (omega arith) ∙ q)))
      go e (no q) =
          (rw add-one at (next_miss level m due i (omega arith) q)) ∙ e ∙ ap (map (at due)) (sym (group_miss (keys level due) m i (λ z. q (sym (key_at i (omega arith)) ∙ z))))

  pub ranked_more : (m : ℕ) → ranked level due n (suc m) ≡ ranked level due n m ++ of_level level m (take n due)
  unfolding sorted
  ranked_more m =
      map-append (at due) (sorted (keys level due) n m) (group (keys level due) m n)
      ∙ ap (λ l. ranked level due n m ++ l) (sym (level_group m n (omega arith)))

  pub ranked_room : (m : ℕ) → length (ranked level due n m) ≤ n
  ranked_room m = omega (arith, length-map (sorted (keys level due) n m) (at due), sorted_room (keys level due) n m)

  pub ranked_place : (m d : ℕ) → d < length (ranked level due n m) → Ranked level due n m (at (ranked level due n m) d)
  ranked_place m d h =
      let l : d < length (sorted (keys level due) n m) = omega (arith, length-map (sorted (keys level due) n m) (at due)) in
      let s = sorted_place (keys level due) n m d l in
      let i = at (sorted (keys level due) n m) d in
      rw (map_at (at due) (sorted (keys level due) n m) d l) (record {
        stands = record { place = i; within = s.item; holds = refl };
        low = omega (arith, s.keyed, key_at i s.item);
      })

  pub ranked_grows : (m many : ℕ) → m ≤ many → length (ranked level due n m) ≤ length (ranked level due n many)
  ranked_grows m many h = omega (
    arith,
    sorted_grows (keys level due) n m many h,
    length-map (sorted (keys level due) n m) (at due),
    length-map (sorted (keys level due) n many) (at due),
  )

  pub ranked_first : (m many d : ℕ) → m ≤ many → d < length (ranked level due n m) → at (ranked level due n many) d ≡ at (ranked level due n m) d
  ranked_first m many d h l =
      let r = sorted_prefix (keys level due) n m many h in
      ap (λ xs. at xs d) (ap (map (at due)) r.1 ∙ map-append (at due) (sorted (keys level due) n m) r.0)
      ∙ get_or-append (ranked level due n m) (map (at due) r.0) 0 d l

  pub ranked_holds : (m x : ℕ) → x < n → at level (at due x / 2) < m → Stands (ranked level due n m) (length (ranked level due n m)) (at due x)
  ranked_holds m x h l =
      let s = sorted_holds (keys level due) n m x h (omega (arith, key_at x h)) in
      record {
        place = s.place;
        within = omega (arith, s.within, length-map (sorted (keys level due) n m) (at due));
        holds = map_at (at due) (sorted (keys level due) n m) s.place s.within ∙ ap (at due) s.holds;
      }
