-- The promises of what is found, for our form of block.
use Rattle.std.proofs.Common.{◌≡◌, ℕ, zero, suc, ◌+◌, ◌<◌, ◌≤◌, Bool, true, false, not, ◌||◌, eqb, ltb, List, length, sym, refl, ◌∙◌, inl, inr, arith}
use Rattle.std.proofs.lemmas.Bool.{both_ways, and_parts, and_from, eqb-true, eq-eqb, cases_Bool, le-ltb}
use Rattle.block.specs.Block.{long, whose, size, block, used}
use Rattle.block.proofs.Blocks as blocks
use Rattle.recovery.specs.Found.{found_from, found, FirstOfOwner}
use Rattle.recovery.specs.Promise.{FoundIsFirst, Apart, SavesUsed, UsedOrDamaged, UsedIsFound}
use Rattle.recovery.proofs.Places.{count_none, count_some}
use Rattle.recovery.proofs.Scan.{of_name, more, scan}
use Rattle.recovery.proofs.Form.{Form, form_apart, form_found, found_taken, taken_found, stood, saves}

pub used_block : (a : List ℕ) (i : ℕ) → used a i ≡ true → block a i ≡ true
unfolding used
used_block a i h = (and_parts _ _ h).0

-- what is in use ends on the shelf
pub used_fits : (a : List ℕ) (i : ℕ) → used a i ≡ true → i + size a i ≤ length a
used_fits a i h = (blocks.parts a i (used_block a i h)).fits

-- our blocks are a form
abbrev pub form : Form
form = record {
  used = used;
  size = size;
  name = whose;
  pos = λ a i h. let s = blocks.size_is (long a i) in omega arith;
  fits = used_fits;
  head = λ a i h. (blocks.parts a i (used_block a i h)).head;
  tail = λ a i k h l m. let t = blocks.tail a i k (used_block a i h) l m in omega arith;
  local = λ a b i len h cells.
      let f = (blocks.parts a i (used_block a i h)).fits in
      let r = blocks.alike a b i f (omega arith) (λ k l. cells k l.0 l.1) in
      (r.in_use_is ∙ h, r.whose_is);
}

-- blocks in use that stand never overlap
pub used_apart : (a : List ℕ) (i j : ℕ) → used a i ≡ true → used a j ≡ true → i < j → i + size a i ≤ j
used_apart a i j h k l = form_apart form a i j h k l

-- one of each owner
abbrev one : ℕ → ℕ
one w = 1

-- an owner was seen if one of theirs was counted
seen_more : (s : ℕ → Bool) (t : ℕ → ℕ) (v : ℕ) → ((w : ℕ) → not (s w) ≡ ltb (t w) 1) → (w : ℕ) → not (eqb w v || s w) ≡ ltb (more t v w) 1
seen_more s t v h w = elim (cases_Bool (eqb w v)) [ inl e ↦ rw e (sym (le-ltb (suc (t w)) 1 (omega arith))) | inr e ↦ rw e (h w) ]

same_scan : (f : ℕ) (a : List ℕ) (s : ℕ → Bool) (t : ℕ → ℕ) → ((w : ℕ) → not (s w) ≡ ltb (t w) 1) → (i p : ℕ) →
    found_from f a s i p ≡ scan (length a) (used a) (size a) (whose a) one f t i p
unfolding found_from scan
same_scan zero a s t h i p = refl
same_scan (suc f) a s t h i p =
    rw (
      h (whose a i),
      same_scan f a (λ w. eqb w (whose a i) || s w) (more t (whose a i)) (seen_more s t (whose a i) h) (i + size a i) p,
      same_scan f a s t h (i + 1) p,
    )

pub same_found : (a : List ℕ) (p : ℕ) → found a p ≡ form_found form one a p
unfolding found
same_found a p = same_scan (length a) a (λ w. false) (λ w. 0) (λ w. refl) 0 p

found_first : (b : List ℕ) (p : ℕ) → found b p ≡ true → FirstOfOwner b p
found_first b p h =
    let t = found_taken form one b p (sym (same_found b p) ∙ h) in
    let few = t.few in
    record { here = t.here; first = λ j l u e. count_some (of_name (used b) (whose b) (whose b p)) j p l (and_from _ _ u (eq-eqb _ _ e)) (omega arith) }

first_found : (b : List ℕ) (p : ℕ) → FirstOfOwner b p → found b p ≡ true
first_found b p r =
    let none = count_none (of_name (used b) (whose b) (whose b p)) p (λ q l t. let c = and_parts (used b q) _ t in r.first q l c.0 (eqb-true _ _ c.1)) in
    same_found b p ∙ taken_found form one b p (whose b p) r.here refl (omega arith)

pub found_is_first : FoundIsFirst
found_is_first b p = (found_first b p, first_found b p)

pub found_used : (b : List ℕ) (p : ℕ) → found b p ≡ true → used b p ≡ true
found_used b p h = (found_first b p h).here

pub apart : Apart
apart b i j h k l = used_apart b i j (found_used b i h) (found_used b j k) l

pub saves_used : SavesUsed
saves_used a b i once len u un =
    let none = count_none (of_name (used a) (whose a) (whose a i)) i
    (λ q l t. let c = and_parts (used a q) _ t in let e = once q i c.0 u (eqb-true _ _ c.1) in omega arith) in
    elim (saves form one a b len i (whose a i) u refl (omega arith) (λ k x y. un k (x, y))) [
      | inl r ↦ inl (same_found b i ∙ r)
      | inr r ↦ inr (r.0, r.1, same_found b _ ∙ r.2, r.3, (r.4.0, (r.4.1, r.4.2), r.4.3))
    ]

pub used_or_damaged : UsedOrDamaged
used_or_damaged a b j len f =
    let u = found_used b j f in
    let fits = (blocks.parts b j (used_block b j u)).fits in
    elim (stood form one a b len j u) [
      | inl r ↦ inl (r.0, r.1, (blocks.alike b a j fits (omega arith) (λ k l. r.2 k l.0 l.1)).content_is)
      | inr r ↦ inr (r.0, (r.1, r.2), r.3)
    ]

pub used_is_found : UsedIsFound
used_is_found a once i = elim (cases_Bool (used a i)) [
  | inl u ↦ first_found a i (record { here = u; first = λ j l v e. let d = once j i v u e in omega arith }) ∙ sym u
  | inr u ↦ elim (cases_Bool (found a i)) [ inl f ↦ absurd (both_ways _ u (found_used a i f)) | inr f ↦ f ∙ sym u ]
]
