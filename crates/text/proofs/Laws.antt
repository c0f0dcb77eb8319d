-- What is said is read back.
use Rattle.std.proofs.Common.{◌≡◌, ℕ, ◌-◌, ◌^◌, ◌<◌, ◌≤◌, true, false, ◌&&◌, eqb, ltb, List, [], ◌∷◌, ◌++◌, map, length, get_or, Some, Option, Result, decimal, sym, refl, ap, ◌∙◌, inl, inr, append_assoc, append-nil, arith, rules}
use Rattle.std.specs.List.{flat_map, All, AllByRecursion}
use Rattle.std.proofs.lemmas.Fmt.{digits_decimal, digits_value-decimal, decimal_nonempty}
use Rattle.std.proofs.ByRecursion.{All-get_or, All-append, All-weaker, All-from_get_or}
use Rattle.std.proofs.lemmas.List.{length_push, get_or_push, take_at}
use Rattle.std.proofs.lemmas.List.Splits.{slice_split_none, slice_split_at}
use Rattle.std.proofs.lemmas.Str.Parse.{IsNumeralModel, numerals_by_fold, digit_at}
use Rattle.std.proofs.lemmas.Bool.{lt-ltb, eq-eqb, ne_eqb, and_from, and_right, or_from, cond-true, cond-false}
use Rattle.text.specs.declared.commands.Command.{Command}
use Rattle.text.specs.declared.commands.Unreadable.{Unreadable}
use Rattle.text.specs.Cut.{is_blank, pieces, filled, words, without_last, without_end}
use Rattle.text.specs.Reading.{numbers_of, asked, asked_by, line_of}
use Rattle.text.specs.Said.{said, LineEnd, ReadsBack}
use Rattle.text.specs.Spelling.{all_digits, value_after, spelled}
use Rattle.text.specs.Writing.{next}

-- a byte that is no blank and no line's end
abbrev Plain : ℕ → Type 0
Plain b = 33 ≤ b

solid : (b : ℕ) → Plain b → is_blank b ≡ false
solid b h = or_from (eqb b 32) (eqb b 9) (ne_eqb b 32 (λ e. omega arith)) (ne_eqb b 9 (λ e. omega arith))

-- our words for digits and their number, as the shelf has them
own : IsNumeralModel (λ ds. all_digits ds ≡ true) (value_after 0)
unfolding all_digits value_after
own = numerals_by_fold _ (search rules) value_after (search rules)

-- what is written of a number spells it
pub spelled_decimal : (n : ℕ) → n < 2 ^ 64 → spelled (decimal n) ≡ Some n
spelled_decimal n h =
    rw (lt-ltb 0 (length (decimal n)) (decimal_nonempty n h), digits_decimal own n h, digits_value-decimal own n h, lt-ltb n (2 ^ 64) h) refl

plain_decimal : (n : ℕ) → n < 2 ^ 64 → AllByRecursion Plain (decimal n)
plain_decimal n h = All-from_get_or Plain (decimal n) 0 (λ i l. let d = digit_at (decimal n) i (own.to (decimal n) (digits_decimal own n h)) l in omega (arith, d.0))

solid_all : (w : List ℕ) → AllByRecursion Plain w → All (λ b. is_blank b ≡ false) w
solid_all w a k d h = solid (get_or w k d) (All-get_or Plain w k d h a)

pieces_said : (w ns : List ℕ) → AllByRecursion Plain w → AllByRecursion (λ n. n < 2 ^ 64) ns → pieces (said w ns) ≡ w ∷ map decimal ns
pieces_said w [] a h = rw append-nil (slice_split_none is_blank w (solid_all w a))
pieces_said w (n ∷ ns) a h =
    slice_split_at is_blank w 32 (decimal n ++ flat_map next ns) (solid_all w a) refl ∙ ap (λ ps. w ∷ ps) (pieces_said (decimal n) ns (plain_decimal n h.0) h.1)

filled_some : (w : List ℕ) (ws : List (List ℕ)) → 0 < length w → filled (w ∷ ws) ≡ w ∷ filled ws
unfolding filled
filled_some [] ws h = absurd (omega arith)
filled_some (b ∷ w) ws h = refl

filled_decimals : (ns : List ℕ) → AllByRecursion (λ n. n < 2 ^ 64) ns → filled (map decimal ns) ≡ map decimal ns
unfolding filled
filled_decimals [] h = refl
filled_decimals (n ∷ ns) h = filled_some (decimal n) (map decimal ns) (decimal_nonempty n h.0) ∙ ap (λ ws. decimal n ∷ ws) (filled_decimals ns h.1)

numbers_decimals : (ns : List ℕ) → AllByRecursion (λ n. n < 2 ^ 64) ns → numbers_of (map decimal ns) ≡ Some ns
unfolding numbers_of
numbers_decimals [] h = refl
numbers_decimals (n ∷ ns) h = rw (spelled_decimal n h.0, numbers_decimals ns h.1) refl

words_said : (k ns : List ℕ) → 0 < length k → AllByRecursion Plain k → AllByRecursion (λ n. n < 2 ^ 64) ns → words (said k ns) ≡ k ∷ map decimal ns
unfolding words
words_said k ns some a h =
    ap filled (pieces_said k ns a h) ∙ filled_some k (map decimal ns) some ∙ ap (λ ws. k ∷ ws) (filled_decimals ns h)

-- an end is taken off where there is one
without_last_none : (x : ℕ) (bs : List ℕ) → x < 32 → AllByRecursion (λ b. 32 ≤ b) bs → without_last x bs ≡ bs
without_last_none x [] l a = refl
without_last_none x (b ∷ bs) l a =
    let last : 32 ≤ get_or (b ∷ bs) (length (b ∷ bs) - 1) 0 = All-get_or (λ c. 32 ≤ c) (b ∷ bs) (length (b ∷ bs) - 1) 0 (omega arith) a in
    cond-false (ltb 0 (length (b ∷ bs)) && eqb (get_or (b ∷ bs) (length (b ∷ bs) - 1) 0) x) _ _ (and_right _ _ (ne_eqb _ x (λ e. omega arith)))

printed : (ns : List ℕ) → AllByRecursion (λ n. n < 2 ^ 64) ns → AllByRecursion (λ b. 32 ≤ b) (flat_map next ns)
printed [] h = tt
printed (n ∷ ns) h =
    (omega arith, All-append (λ b. 32 ≤ b) (decimal n) (flat_map next ns) (All-weaker Plain (λ b. 32 ≤ b) (λ b l. omega arith) (decimal n) (plain_decimal n h.0)) (printed ns h.1))

without_last_one : (x : ℕ) (bs : List ℕ) → without_last x (bs ++ x ∷ []) ≡ bs
without_last_one x bs =
    let long : length (bs ++ x ∷ []) - 1 ≡ length bs = omega (arith, length_push bs x) in
    let some : ltb 0 (length (bs ++ x ∷ [])) ≡ true = lt-ltb 0 _ (omega (arith, length_push bs x)) in
    let last : eqb (get_or (bs ++ x ∷ []) (length (bs ++ x ∷ []) - 1) 0) x ≡ true = eq-eqb _ x (get_or_push bs x 0 _ (sym long)) in
    cond-true _ _ _ (and_from _ _ some last) ∙ take_at bs (x ∷ []) _ (sym long)

without_end_said : (bs e : List ℕ) → AllByRecursion (λ b. 32 ≤ b) bs → LineEnd e → without_end (bs ++ e) ≡ bs
without_end_said bs e a (inl none) =
    ap without_end (ap (λ t. bs ++ t) none ∙ append-nil bs)
    ∙ ap (without_last 13) (without_last_none 10 bs (omega arith) a)
    ∙ without_last_none 13 bs (omega arith) a
without_end_said bs e a (inr (inl feed)) =
    ap (λ t. without_end (bs ++ t)) feed
    ∙ ap (without_last 13) (without_last_one 10 bs)
    ∙ without_last_none 13 bs (omega arith) a
without_end_said bs e a (inr (inr both)) =
    ap without_end (ap (λ t. bs ++ t) both ∙ sym (append_assoc bs (13 ∷ []) (10 ∷ [])))
    ∙ ap (without_last 13) (without_last_one 10 (bs ++ 13 ∷ []))
    ∙ without_last_one 13 bs

-- a keyword and its numbers are read as they were said
pub reads_back : (line : List ℕ) (r : Result (Option Command) Unreadable) → r ≡ line_of line → ReadsBack line r
reads_back line r value k ns e word h end is =
    let plain = All-weaker (λ c. (97 ≤ c) × (c ≤ 122)) Plain (λ c l. omega (arith, l.0)) k word.1 in
    let bytes = All-append (λ b. 32 ≤ b) k (flat_map next ns) (All-weaker Plain (λ b. 32 ≤ b) (λ b l. omega arith) k plain) (printed ns h) in
    value
    ∙ ap asked_by (ap words (ap without_end is ∙ without_end_said (said k ns) e bytes end) ∙ words_said k ns word.0 plain h)
    ∙ ap (asked k) (numbers_decimals ns h)
