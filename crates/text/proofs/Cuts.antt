-- A line's first word, and the words behind it.
use Rattle.std.proofs.Common.{◌≡◌, ℕ, ◌+◌, ◌<◌, true, false, List, [], ◌∷◌, length, take, drop, refl, ap, ◌∙◌, inl, inr, one-add, arith, length-drop}
use Rattle.std.specs.List.{prefix_len}
use Rattle.std.proofs.lemmas.Bool.{cases_Bool}
use Rattle.text.specs.Cut.{is_blank, of_kind, pieces, filled, words, First}

-- how many blanks stand at the front, and how many bytes before the first blank
abbrev pub blanks : List ℕ → ℕ
blanks bs = prefix_len (of_kind true) bs

abbrev pub solid : List ℕ → ℕ
solid bs = prefix_len (of_kind false) bs

-- the pieces behind the first, of which bs is the blank and what follows it
behind : List ℕ → List (List ℕ)
behind [] = []
behind (b ∷ bs) = pieces bs

-- the first piece ends at the first blank
pieces_front : (bs : List ℕ) → pieces bs ≡ take (solid bs) bs ∷ behind (drop (solid bs) bs)
unfolding behind
pieces_front [] = refl
pieces_front (b ∷ bs) =
    elim (cases_Bool (is_blank b)) [
      | inl is ↦ rw is refl
      | inr none ↦ rw (none, one-add, pieces_front bs) refl
    ]

filled_behind : (bs : List ℕ) → filled (behind (drop (solid bs) bs)) ≡ words (drop (solid bs) bs)
unfolding behind filled words
filled_behind [] = refl
filled_behind (b ∷ bs) =
    elim (cases_Bool (is_blank b)) [
      | inl is ↦ rw (is, is) refl
      | inr none ↦ rw (none, one-add) (filled_behind bs)
    ]

-- blanks at the front are no part of a word
pub words_none : (bs : List ℕ) → blanks bs ≡ length bs → words bs ≡ []
unfolding filled words
words_none [] e = refl
words_none (b ∷ bs) e =
    elim (cases_Bool (is_blank b)) [
      | inl is ↦ let long : blanks (b ∷ bs) ≡ 1 + blanks bs = rw is refl in rw is (words_none bs (omega arith))
      | inr none ↦ let short : blanks (b ∷ bs) ≡ 0 = rw none refl in let z : ⊥ = omega arith in absurd z
    ]

-- behind the blanks stands a word
solid_some : (bs : List ℕ) → blanks bs < length bs → 0 < solid (drop (blanks bs) bs)
solid_some [] h = absurd (omega arith)
solid_some (b ∷ bs) h =
    elim (cases_Bool (is_blank b)) [
      | inl is ↦ let long : blanks (b ∷ bs) ≡ 1 + blanks bs = rw is refl in rw (is, one-add) (solid_some bs (omega arith))
      | inr none ↦ rw (none, none, one-add) (omega arith)
    ]

words_first : (bs : List ℕ) → blanks bs < length bs →
    words bs ≡ take (solid (drop (blanks bs) bs)) (drop (blanks bs) bs) ∷ words (drop (solid (drop (blanks bs) bs)) (drop (blanks bs) bs))
unfolding filled words
words_first [] h = absurd (omega arith)
words_first (b ∷ bs) h =
    elim (cases_Bool (is_blank b)) [
      | inl is ↦ let long : blanks (b ∷ bs) ≡ 1 + blanks bs = rw is refl in rw (is, one-add) (words_first bs (omega arith))
      | inr none ↦ rw (none, none, one-add, pieces_front bs) (ap (λ ws. (b ∷ take (solid bs) bs) ∷ ws) (filled_behind bs))
    ]

-- a line cut behind its first word
pub first_word : (bs : List ℕ) (start end : ℕ) (line word rest : List ℕ) → start ≡ blanks bs → line ≡ drop start bs → (length line ≡ 0 → ⊥) → end ≡ solid line → word ≡ take end line → rest ≡ drop end line → First bs word rest
first_word bs start end line word rest is_start is_line some is_end is_IsWord is_rest =
    let same : line ≡ drop (blanks bs) bs = is_line ∙ ap (λ k. drop k bs) is_start in
    let lines = ap length is_line ∙ length-drop start bs in
    let rests = ap length is_rest ∙ length-drop end line in
    let found : blanks bs < length bs = omega arith in
    let cut = words_first bs found in
    let some_solid = solid_some bs found in
    let ends = ap solid same in
    record { first = cc; shorter = omega arith }
