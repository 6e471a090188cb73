-- Lists under the xor with a key stream, changed in place, piece after piece, and encrypted or decrypted so.
use Rattle.std.proofs.Common.{◌≡◌, inl, inr, ℕ, ◌+◌, ◌-◌, ◌<◌, true, false, List, [], ◌∷◌, ◌++◌, length, get_or, bit_xor, refl, ap, ap₂, sym, ◌∙◌, arith, length-append, ◌≤◌, set, take, drop, append_assoc, take-add, length-drop, length-take-le}
use Rattle.std.specs.Int.Bits.{xor_self, xor_assoc, xor_zero_r}
use Rattle.std.proofs.Math.ListN.{get_or-append}
use Rattle.std.proofs.lemmas.Bool.{cases_lt}
use Rattle.std.proofs.lemmas.List.{get_or-append_right, get_or-take, ext_get_or, append-nil, take_more_set, drop-drop, drop-set-lt, drop_more}
use Rattle.des.specs.Bits.{xor}
use Rattle.des.proofs.KeyParts.{get_or-first_chunks}
use Rattle.des_modes.specs.Streams.{GoesOn, Xors, ciphertext, plaintext}
use Rattle.std.proofs.lemmas.Slice.{take-put_mid, drop-put_mid}
use borrow.Rule.Slice.PartMut.{put_mid, mid_of}
use Rattle.des_modes.specs.declared.direction.Direction.{Direction}
use Rattle.des_modes.specs.declared.direction.Direction.TheVariants.{Encrypt, Decrypt}

-- the eight bytes that stand at a place among the first ones
pub ruleset chunks = (get_or-take, get_or-first_chunks)

-- ---- the xor undoes itself

abbrev pub UndoesItself : {X : Type 0} → (X → X → X) → Type 0
UndoesItself {X} op = (x y : X) → op (op x y) y ≡ x

pub bytes_undone : UndoesItself bit_xor
bytes_undone x y = xor_assoc x y y ∙ ap (bit_xor x) (xor_self y) ∙ xor_zero_r x

pub bits_undone : UndoesItself xor
bits_undone true true = refl
bits_undone true false = refl
bits_undone false true = refl
bits_undone false false = refl

-- ---- lists of elements of any kind

module _ {X : Type 0} {op : X → X → X} {d : X} where
  pub Xors-none : (n : ℕ) (k : ℕ → X) → Xors op d n k [] []
  Xors-none n k = record { count = refl; xored = λ i below. absurd (omega arith) }

  pub Xors-single : (n : ℕ) (k : ℕ → X) (x y : X) → y ≡ op x (k n) → Xors op d n k (x ∷ []) (y ∷ [])
  Xors-single n k x y is = record {
    count = refl;
    xored = λ i below.
        let first : i ≡ 0 = omega arith in
        let place : n + i ≡ n = omega arith in rw (place, first) is;
  }

  pub Xors-back : (n : ℕ) (k : ℕ → X) (p c : List X) → UndoesItself op → Xors op d n k p c → Xors op d n k c p
  Xors-back n k p c undone xors = record {
    count = sym xors.count;
    xored = λ i below.
        sym (ap (λ (x : X). op x (k (n + i))) (xors.xored i (omega (arith, xors.count))) ∙ undone (get_or p i d) (k (n + i)));
  }

  -- by another key stream that agrees at their places
  pub Xors-other : (n : ℕ) (k other : ℕ → X) (p c : List X) → ((i : ℕ) → i < length p → k (n + i) ≡ other (n + i))
      → Xors op d n k p c → Xors op d n other p c
  Xors-other n k other p c agree xors = record {
    count = xors.count;
    xored = λ i below. xors.xored i below ∙ ap (op (get_or p i d)) (agree i below);
  }

  -- a piece after another
  pub Xors-append : (n m : ℕ) (k : ℕ → X) (p c more answers : List X) → m ≡ n + length p → Xors op d n k p c
      → Xors op d m k more answers → Xors op d n k (p ++ more) (c ++ answers)
  Xors-append n m k p c more answers is first second = record {
    count = length-append c answers ∙ ap₂ ◌+◌ first.count second.count ∙ sym (length-append p more);
    xored = λ i below. elim (cases_lt i (length p)) [
      | inl front ↦
          rw (get_or-append p more d i front, get_or-append c answers d i (omega (arith, first.count)))
          (first.xored i front)
      | inr back ↦
          let j : ℕ = i - length p in
          let place : n + i ≡ m + j = omega arith in
          let answer = get_or-append_right c answers (length p) i d first.count back in
          rw (get_or-append_right p more (length p) i d refl back, answer, place)
          (second.xored j (omega (arith, length-append p more)))
    ];
  }

  -- the ciphertext has one plaintext
  pub Xors-one : {n : ℕ} {k : ℕ → X} {p other c : List X} → UndoesItself op → Xors op d n k p c → Xors op d n k other c
      → p ≡ other
  Xors-one {n} {k} {p} {other} {c} undone first second =
      let back = Xors-back n k p c undone first in
      let again = Xors-back n k other c undone second in
      ext_get_or d p other (omega (arith, first.count, second.count)) (λ i below.
      back.xored i (omega (arith, first.count)) ∙ sym (again.xored i (omega (arith, first.count))))

-- ---- a list of which the elements before `from` are done, as the relation says of them

pub record InPlace {X : Type 0} (Done : List X → List X → Type 0) (from : ℕ) (old now : List X) : Type 0 where
  pub done : Done (take from old) (take from now)
  pub rest : drop from now ≡ drop from old

module _ {X : Type 0} {Done Next : List X → List X → Type 0} {from : ℕ} {old now : List X} where
  -- the next elements
  InPlace-next : (count : ℕ) (next part : List X) → take (from + count) next ≡ take from now ++ part
      → drop (from + count) next ≡ drop (from + count) now
      → (Done (take from old) (take from now) → Next (take from old ++ take count (drop from now)) (take from now ++ part))
      → InPlace Done from old now → InPlace Next (from + count) old next
  InPlace-next count next part front behind goes so_far = record {
    done = rw (take-add from count old, front) (rw (ap (take count) so_far.rest) at (goes so_far.done));
    rest = behind ∙ sym (drop-drop count from now) ∙ ap (drop count) so_far.rest ∙ drop-drop count from old;
  }

  -- of a part that was written
  pub InPlace-more : {count size : ℕ} (part : List X) → size ≡ count → from + count ≤ length now
      → length part ≡ length (mid_of from size now)
      → (Done (take from old) (take from now) → Next (take from old ++ mid_of from size now) (take from now ++ part))
      → InPlace Done from old now → InPlace Next (from + count) old (put_mid from size now part)
  InPlace-more {count} {size} part is within same goes so_far =
      let many : length part ≡ count =
      same ∙ length-take-le size (drop from now) (omega (arith, length-drop from now)) ∙ is in
      InPlace-next count (put_mid from size now part) part
      (take-put_mid from size now part (from + count) (omega arith) (omega arith))
      (drop-put_mid from size now part (from + count) (omega arith) (omega arith) (omega arith))
      (rw is at goes) so_far

  -- of an element that was written
  pub InPlace-set : {next : List X} (x d : X) → next ≡ set now from x → from < length now
      → (Done (take from old) (take from now) → Next (take from old ++ get_or now from d ∷ []) (take from now ++ x ∷ []))
      → InPlace Done from old now → InPlace Next (from + 1) old next
  InPlace-set {next} x d is within goes so_far =
      InPlace-next 1 next (x ∷ []) (ap (take (from + 1)) is ∙ take_more_set now from x within)
      (ap (drop (from + 1)) is ∙ drop-set-lt (from + 1) now from x (omega arith))
      (λ done. rw (drop_more now from d within) (goes done)) so_far

-- ---- each text is one of the two

pub ciphertext-is : {X : Type 0} (P : X → Type 0) (direction : Direction) (old new : X) → P old → P new
    → P (ciphertext direction old new)
ciphertext-is P Encrypt old new of_old of_new = of_new
ciphertext-is P Decrypt old new of_old of_new = of_old

pub texts-map : {X Y : Type 0} (f : X → Y) (direction : Direction) (old new : X)
    → (f (plaintext direction old new) ≡ plaintext direction (f old) (f new))
    × (f (ciphertext direction old new) ≡ ciphertext direction (f old) (f new))
texts-map f Encrypt old new = (refl, refl)
texts-map f Decrypt old new = (refl, refl)

pub length-behind : {X : Type 0} (direction : Direction) (c old new : List X) → length new ≡ length old
    → length (c ++ ciphertext direction old new) ≡ length c + length old
length-behind direction c old new same =
    length-append c _ ∙ ap (λ (n : ℕ). length c + n) (ciphertext-is (λ (xs : List _). length xs ≡ length old) direction old new refl same)

ciphertext-append : {X : Type 0} (direction : Direction) (old now more answers : List X)
    → ciphertext direction (old ++ more) (now ++ answers) ≡ ciphertext direction old now ++ ciphertext direction more answers
ciphertext-append Encrypt old now more answers = refl
ciphertext-append Decrypt old now more answers = refl

-- the xor encrypts and decrypts
pub Xors-directed : {X : Type 0} {op : X → X → X} {d : X} (direction : Direction) (n : ℕ) (k : ℕ → X) (old now : List X)
    → UndoesItself op → Xors op d n k old now → Xors op d n k (plaintext direction old now) (ciphertext direction old now)
Xors-directed Encrypt n k old now undone xors = xors
Xors-directed Decrypt n k old now undone xors = Xors-back n k old now undone xors

-- ---- streams that go on

-- the key stream does not depend on what comes
abbrev pub GoesByFront : {X : Type 0} → (List X → ℕ → X) → Type 0
GoesByFront {X} k = (t more : List X) (i : ℕ) → i < length t → k (t ++ more) i ≡ k t i

module _ {S X : Type 0} {op : X → X → X} {d : X} {At : List X → S → Type 0} {k : List X → ℕ → X} where
  pub GoesOn-joined : (direction : Direction) {before between after : S} {old now more answers : List X}
      → GoesOn op d At k direction before between old now → GoesOn op d At k direction between after more answers
      → GoesOn op d At k direction before after (old ++ more) (now ++ answers)
  GoesOn-joined direction {before} {between} {after} {old} {now} {more} {answers} first second = record {
    goes = λ t rest at.
        let c : List X = ciphertext direction old now in
        let e : List X = ciphertext direction more answers in
        let one = first.goes t (e ++ rest) at in
        let two = second.goes (t ++ c) rest one.0 in
        let size = length-behind direction t old now one.1.count in
        rw (ciphertext-append direction old now more answers, ← append_assoc t c e) (
          two.0,
          Xors-append (length t) (length (t ++ c)) (k (((t ++ c) ++ e) ++ rest)) old now more answers size
              (rw (append_assoc (t ++ c) e rest) one.1) two.1,
        );
  }

  -- what goes on from a text makes the whole
  pub GoesOn-whole : (direction : Direction) {before after : S} {old now : List X} → UndoesItself op
      → ((t : List X) → At t before → GoesByFront k) → GoesOn op d At k direction before after old now
      → (p c : List X) → At c before → Xors op d 0 (k c) p c
      → Xors op d 0 (k (c ++ ciphertext direction old now)) (p ++ plaintext direction old now) (c ++ ciphertext direction old now)
  GoesOn-whole direction {old = old} {now = now} undone front goes p c at begun =
      let all : List X = c ++ ciphertext direction old now in
      Xors-append 0 (length c) (k all) p c _ _ (omega (arith, begun.count))
      (Xors-other 0 (k c) (k all) p c (λ i below. sym (front c at c _ (0 + i) (omega (arith, begun.count)))) begun)
      (Xors-directed direction _ _ _ _ undone (rw (append-nil all) at (goes.goes c [] at).1))
