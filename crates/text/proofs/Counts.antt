-- Numbers read word by word into a row.
use Rattle.std.proofs.Common.{◌≡◌, ℕ, ◌+◌, ◌<◌, ◌≤◌, Bool, true, false, not, is_some, replicate, List, [], ◌∷◌, ◌++◌, length, take, set, Some, None, Option, Bor, sym, refl, ap, ◌∙◌, append_assoc, append-nil, arith, length-append, length-set}
use Rattle.std.proofs.lemmas.List.{take_more_set, length-take-le, take_all, length-replicate}
use Rattle.std.proofs.lemmas.Bool.{eq-eqb, ne_eqb}
use Rattle.std.specs.Bool.{then_some}
use mathlib.Core.Bool.{true≢false}
use Rattle.text.specs.declared.words.Words.{Words}
use Rattle.text.specs.Left.{words_left, GivesWord}
use Rattle.text.specs.Reading.{both, numbers_of, exactly}
use Rattle.text.specs.Spelling.{spelled}

-- some numbers before others, where these are there
abbrev pub before : List ℕ → Option (List ℕ) → Option (List ℕ)
before ms None = None
before ms (Some ns) = Some (ms ++ ns)

before_both : (ms : List ℕ) (m : ℕ) (o : Option (List ℕ)) → before ms (both (Some m) o) ≡ before (ms ++ m ∷ []) o
before_both ms m None = refl
before_both ms m (Some ns) = ap (λ l. Some l) (sym (append_assoc ms (m ∷ []) ns))

-- the numbers of the first words stand in a row of k places, and those of the words that are left follow
pub record Sofar (k : ℕ) (all left : List (List ℕ)) (count : ℕ) (row : List ℕ) : Type 0 where
  pub long : length row ≡ k
  pub same : before (take count row) (numbers_of left) ≡ numbers_of all

pub none_yet : (all : List (List ℕ)) (k : ℕ) → Sofar k all all 0 (replicate k 0)
none_yet all k = record { long = length-replicate k 0; same = go (numbers_of all) }
  where
    go : (o : Option (List ℕ)) → before [] o ≡ o
    go None = refl
    go (Some ns) = refl

module _ {k : ℕ} {all left : List (List ℕ)} {count : ℕ} {row : List ℕ} (old : Sofar k all left count row) where
  none_left : left ≡ [] → numbers_of all ≡ Some (take count row)
  unfolding numbers_of
  none_left none = sym old.same ∙ ap (λ ws. before (take count row) (numbers_of ws)) none ∙ ap (λ l. Some l) (append-nil (take count row))

  pub too_few : left ≡ [] → count < k → exactly k (numbers_of all) ≡ None
  too_few none lt =
      let front = length-take-le count row (omega (arith, old.long)) in
      ap (exactly k) (none_left none) ∙ rw (ne_eqb (length (take count row)) k (λ e. omega arith)) refl

  pub all_read : left ≡ [] → k ≤ count → exactly k (numbers_of all) ≡ Some row
  all_read none end =
      ap (exactly k) (none_left none ∙ ap (λ l. Some l) (take_all count row (omega (arith, old.long)))) ∙ rw (eq-eqb (length row) k old.long) refl

  module _ {next : List (List ℕ)} {word : List ℕ} (cut : left ≡ word ∷ next) where
    numbers_cut : before (take count row) (both (spelled word) (numbers_of next)) ≡ numbers_of all
    unfolding numbers_of
    numbers_cut = ap (λ ws. before (take count row) (numbers_of ws)) (sym cut) ∙ old.same

    pub one_more : (m : ℕ) → spelled word ≡ Some m → count < k → Sofar k all next (count + 1) (set row count m)
    one_more m e lt = record {
      long = length-set row count m ∙ old.long;
      same = ap (λ ms. before ms (numbers_of next)) (take_more_set row count m (omega (arith, old.long)))
          ∙ sym (before_both (take count row) m (numbers_of next))
          ∙ ap (λ o. before (take count row) (both o (numbers_of next))) (sym e)
          ∙ numbers_cut;
    }

    pub no_number : spelled word ≡ None → exactly k (numbers_of all) ≡ None
    no_number e = ap (exactly k) (sym numbers_cut ∙ ap (λ o. before (take count row) (both o (numbers_of next))) e)

    pub too_many : k ≤ count → exactly k (numbers_of all) ≡ None
    too_many end = ap (exactly k) (sym numbers_cut) ∙ go (spelled word) (numbers_of next)
      where
        go : (o : Option ℕ) (p : Option (List ℕ)) → exactly k (before (take count row) (both o p)) ≡ None
        go None p = refl
        go (Some m) None = refl
        go (Some m) (Some ns) =
            let many = length-append (take count row) (m ∷ ns) in
            let front = ap length (take_all count row (omega (arith, old.long))) in
            rw (ne_eqb (length (take count row ++ m ∷ ns)) k (λ e. omega (arith, old.long))) refl

-- the row is full, and the next word is asked for
pub row_full : {k : ℕ} {all : List (List ℕ)} (s t : Words) {count : ℕ} {row : List ℕ} → Sofar k all (words_left s) count row → k ≤ count
    → (o : Option (Bor (List ℕ))) → GivesWord s o t → (b : Bool) → is_some o ≡ not b → then_some b row ≡ exactly k (numbers_of all)
row_full s t old end None none true e = sym (all_read old none.0 end)
row_full s t old end None none false e = absurd (true≢false (sym e))
row_full s t old end (Some w) cut true e = absurd (true≢false e)
row_full s t old end (Some w) cut false e = sym (too_many old cut.first end)
