-- A mended shelf is sound and has what was found, each block where it stood, and nothing more.
use Rattle.std.proofs.Common.{◌≡◌, ℕ, ◌<◌, ◌≤◌, true, List, length, sym, ap, ◌∙◌, arith}
use Rattle.std.proofs.lemmas.Bool.{lt-ltb, le-leb}
use Rattle.block.specs.Block.{whose, content}
use Rattle.shelf.specs.Walk.{find, held, holds}
use Rattle.shelf.specs.Sound.{sound}
use Rattle.shelf.specs.Pieces.{used_by, SoundPieces}
use Rattle.shelf.proofs.Pieces.{length_flat}
use Rattle.shelf.proofs.Looks.{seek, seek_in, find_pieces, holds_pieces}
use Rattle.shelf.proofs.Sounds.{pieces_sound}
use Rattle.recovery.specs.Found.{found}
use Rattle.requests.specs.Laws.{Canonical}
use Rattle.recovery.specs.Mend.{mended, Mended, mend_refusal}
use Rattle.recovery.specs.Promise.{CanBeMended}
use Rattle.recovery.proofs.Search.{found_within}
use Rattle.recovery.proofs.Mends.{Makes, makes}

-- what somebody holds is the row of the block that is found as theirs
pub holds_found : (a : List ℕ) (w : ℕ) → find a w < length a → holds a w ≡ held (content a (find a w))
unfolding holds
holds_found a w l = rw (lt-ltb _ _ l)

row_is : (c : List ℕ) (w j : ℕ) (r : List ℕ) → find c w ≡ j → j < length c → holds c w ≡ held r → content c j ≡ r
row_is c w j r e l h =
    let k : held (content c j) ≡ held r = ap (λ p. held (content c p)) (sym e) ∙ (sym (holds_found c w (omega arith)) ∙ h) in
    cc

module _ (b c : List ℕ) (m : Makes b 0 0 c) where
  long_is : length c ≡ length b
  long_is = let r = m.built.long in let l = length_flat m.its in ap length m.cells_are ∙ omega arith

  place_is : (w : ℕ) → find c w ≡ seek (used_by w) m.its
  place_is w = ap (λ l. find l w) m.cells_are ∙ find_pieces w m.its m.built.fine

  keeps_found : (j : ℕ) → found b j ≡ true → (find c (whose b j) ≡ j) × (content c j ≡ content b j)
  keeps_found j f =
      let k = m.built.keeps j (omega arith) f in
      let p = place_is (whose b j) in
      let l = found_within b j f in
      let n = long_is in
      let e : find c (whose b j) ≡ j = omega (arith, k.0) in
      (e, row_is c (whose b j) j (content b j) e (omega arith) (ap (λ l. holds l (whose b j)) m.cells_are ∙ holds_pieces (whose b j) m.its m.built.fine ∙ k.1))

  only_found : (w : ℕ) → find c w < length c → found b (find c w) ≡ true
  only_found w l =
      let p = place_is w in
      let t = length_flat m.its in
      let n = ap length m.cells_are in
      let k = m.built.known w (sym (seek_in (used_by w) m.its) ∙ lt-ltb _ _ (omega arith)) in
      let e : find c w ≡ k.0 = omega (arith, k.1) in
      rw e k.3

  sound_made : SoundPieces m.its
  sound_made = let r = m.built in record { fine = r.fine; tidied = r.tidied; apart = r.apart }

  pub makes_canonical : Canonical c
  makes_canonical = record { its = m.its; whole = m.cells_are; good = sound_made; written = m.built.as_written }

  pub makes_mended : Mended b c
  makes_mended =
      record {
        is_sound = ap sound m.cells_are ∙ pieces_sound m.its sound_made;
        long = long_is;
        keeps = keeps_found;
        adds_none = only_found;
      }

makes_all : (b : List ℕ) → length b ≤ 100000 → Makes b 0 0 (mended b)
unfolding mended
makes_all b s = makes (length b) b 0 0 s (omega arith) (omega arith) (omega arith)

pub mended_is : (b : List ℕ) → length b ≤ 100000 → Mended b (mended b)
mended_is b s = makes_mended b (mended b) (makes_all b s)

pub mended_canonical : (b : List ℕ) → length b ≤ 100000 → Canonical (mended b)
mended_canonical b s = makes_canonical b (mended b) (makes_all b s)

pub can_be_mended : CanBeMended
can_be_mended b h s l = (mended b, mended_is b l)

-- which shelves are refused
pub not_refused : (b : List ℕ) → 3 ≤ length b → length b ≤ 100000 → mend_refusal b ≡ 0
not_refused b h l = rw (le-leb 3 (length b) h, le-leb (length b) 100000 l)
