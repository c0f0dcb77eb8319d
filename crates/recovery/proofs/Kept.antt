-- The promises for sound shelves, and what mending keeps of them.
use Rattle.std.proofs.Common.{◌≡◌, ℕ, ◌<◌, ◌≤◌, true, ◌⊎◌, List, length, sym, refl, ap, ◌∙◌, inl, inr, arith}
use Rattle.std.proofs.lemmas.Bool.{cases_lt, le-ltb}
use Rattle.block.specs.Block.{whose, content, used}
use Rattle.block.specs.Laws.{Alike}
use Rattle.block.proofs.Blocks.{parts, alike}
use Rattle.shelf.specs.Walk.{find, none, held, holds}
use Rattle.shelf.specs.Sound.{sound}
use Rattle.shelf.proofs.Places.{SoundPlaces, sound_places, find_used, find_own}
use Rattle.recovery.specs.Found.{NobodyTwice}
use Rattle.recovery.specs.Mend.{Mended}
use Rattle.recovery.specs.Promise.{Damaged, Unharmed, Forestalled, SavesAll, AddsOnlyDamaged, NothingNew, Kept}
use Rattle.recovery.proofs.Promises.{used_block, found_used, saves_used, used_or_damaged, used_is_found}
use Rattle.recovery.proofs.Mended.{holds_found}

pub sound_twice : (a : List ℕ) → SoundPlaces a → NobodyTwice a
sound_twice a s i j u v e = sym (find_own a i s u) ∙ (ap (find a) e ∙ find_own a j s v)

pub saves_all : SavesAll
saves_all a b w h len l un =
    let s = sound_places a h in
    let u = find_used a w s l in
    elim (saves_used a b (find a w) (sound_twice a s) len u.0 un) [ inl r ↦ inl r | inr r ↦ inr (r.0, r.1, r.2, r.3 ∙ u.1, r.4) ]

pub adds_only_damaged : AddsOnlyDamaged
adds_only_damaged a b j h len f = elim (used_or_damaged a b j len f) [
  | inr r ↦ inr r
  | inl r ↦ inl (ap (find a) (sym r.1) ∙ find_own a j (sound_places a h) r.0, r.2)
]

pub nothing_new : NothingNew
nothing_new a i h =
    let s = sound_places a h in (
      (λ f. find_own a i s (found_used a i f)),
      (λ l e. let u = (find_used a (whose a i) s (omega arith)).0 in used_is_found a (sound_twice a s) i ∙ ap (used a) (sym e) ∙ u),
    )

-- who has the same row at the same place holds the same
kept_at : (a c : List ℕ) (w j : ℕ) → find a w ≡ j → find c w ≡ j → j < length a → j < length c → content c j ≡ content a j → Kept a c w
kept_at a c w j ea ec la lc e = record {
  place = ec ∙ sym ea;
  row = holds_found c w (omega arith) ∙ (ap (λ p. held (content c p)) ec ∙ ap held e ∙ ap (λ p. held (content a p)) (sym ea)) ∙ sym (holds_found a w (omega arith));
}

-- the block of which no cell was hit is as it was
unharmed : (a b : List ℕ) (i : ℕ) → length b ≡ length a → used a i ≡ true → Unharmed a b i → Alike a b i
unharmed a b i len u un = let f = (parts a i (used_block a i u)).fits in alike a b i f (omega arith) un

none_held : (a : List ℕ) (w : ℕ) → length a ≤ find a w → holds a w ≡ none
unfolding holds
none_held a w l = rw (le-ltb _ _ l)

none_found : (a : List ℕ) (w : ℕ) → SoundPlaces a → length a ≤ find a w → find a w ≡ length a
none_found a w s l = elim (s.finding w).what [ inl e ↦ e | inr e ↦ let k = e.0 in let z : ⊥ = omega arith in absurd z ]

module _ (b c : List ℕ) (m : Mended b c) where
  pub saves_row : (a : List ℕ) (w : ℕ) → sound a ≡ true → length b ≡ length a → find a w < length a → Unharmed a b (find a w) → Kept a c w ⊎ Forestalled a b w
  saves_row a w h len l un =
      let i = find a w in
      let u = find_used a w (sound_places a h) l in
      let r = unharmed a b i len u.0 un in
      let n = m.long in
      elim (saves_all a b w h len l un) [
        | inr x ↦ inr x
        | inl f ↦
            let k = m.keeps i f in
            inl (kept_at a c w i refl (ap (find c) (sym (r.whose_is ∙ u.1)) ∙ k.0) l (omega arith) (k.1 ∙ r.content_is))
      ]

  -- whoever has a block has the one that was found as theirs
  found_own : (w : ℕ) → find c w < length c → whose b (find c w) ≡ w
  found_own w l =
      let s = sound_places c m.is_sound in
      let j = find c w in
      let e = (m.keeps j (m.adds_none w l)).0 in
      let own = (find_used c (whose b j) s (omega arith)).1 in
      sym own ∙ (ap (whose c) e ∙ (find_used c w s l).1)

  pub adds_row : (a : List ℕ) (w : ℕ) → sound a ≡ true → length b ≡ length a → find c w < length c → Kept a c w ⊎ Damaged a b (find c w)
  adds_row a w h len l =
      let j = find c w in
      let f = m.adds_none w l in
      let n = m.long in
      elim (adds_only_damaged a b j h len f) [
        | inr x ↦ inr x
        | inl x ↦ inl (kept_at a c w j (ap (find a) (sym (found_own w l)) ∙ x.0) refl (omega arith) l ((m.keeps j f).1 ∙ sym x.1))
      ]

  pub stays_row : sound b ≡ true → (w : ℕ) → Kept b c w
  stays_row h w =
      let n = m.long in
      elim (cases_lt (find c w) (length c)) [
        | inl l ↦ elim (adds_row b w h refl l) [ inl k ↦ k | inr d ↦ absurd (d.2 refl) ]
        | inr l ↦ elim (cases_lt (find b w) (length b)) [
          | inl q ↦ elim (saves_row b w h refl q (λ k i. refl)) [ inl k ↦ k | inr d ↦ absurd (d.4.2 refl) ]
          | inr q ↦
              let ec = none_found c w (sound_places c m.is_sound) l in
              let eb = none_found b w (sound_places b h) q in
              record { place = omega arith; row = none_held c w l ∙ sym (none_held b w q) }
        ]
      ]
