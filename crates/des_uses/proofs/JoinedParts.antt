-- A stream that is decrypted in two parts: joined, they are the whole.
use Rattle.std.proofs.Common.{◌≡◌, ◌≢◌, ◌⊎◌, inl, inr, ℕ, suc, ◌+◌, ◌*◌, ◌%◌, ◌≤◌, List, [], ◌∷◌, ◌++◌, Option, None, Some, length, take, drop, refl, ap, ap₂, sym, subst, ◌∙◌, arith, append_assoc, append-nil, length-append, take_at, drop_at}
use Rattle.std.specs.Io.KnownBytes.{Consumes, IsAtEnd}
use Rattle.std.specs.List.{All}
use Rattle.std.proofs.KnownBytes.{Consumes-trans, Appends-trans}
use Rattle.std.proofs.lemmas.List.Elements.{All-append}
use Rattle.des.specs.Blocks.{IsBlock}
use Rattle.des_io.specs.CipherModes.{Deciphered}
use Rattle.des_io.specs.PaddedBytes.{padded, taken_off}
use Rattle.des_io.specs.Streams.{passage_of, joined, Decrypts, Skips, DecryptsPart}
use Rattle.des_io.specs.StreamFaults.{FailsInPart}
use Rattle.des_io.specs.declared.error.StreamError.{StreamError}
use Rattle.des_io.specs.declared.error.StreamError.TheVariants.{Start}
use Rattle.std.specs.Prelude.{Result, Ok, Err, IfOk, IfErr}
use Rattle.des_io.specs.declared.mode.BlockMode.{BlockMode}
use Rattle.des_io.specs.declared.padding.Padding.{Padding}
use Rattle.des_io.specs.declared.padding.Padding.TheVariants.{Unpadded}
use Rattle.des_io.proofs.EncryptedPieces.{joined-append, length-joined}
use Rattle.des_io.proofs.ModesInPieces.{Deciphered-append}
use Rattle.des_io.proofs.PaddedLists.{padded-append}

-- ---- readers that tell their bytes

none_some : (bytes : List ℕ) → None ≡ Some bytes → ⊥
none_some bytes is = cc

some_some : (a b : List ℕ) → Some a ≡ Some b → a ≡ b
some_some a b is = cc

-- what is left after some bytes
left_after : (all : List ℕ) (r t : Option (List ℕ)) (bytes : List ℕ) → r ≡ Some all → Consumes r t bytes
    → (left : List ℕ) × (t ≡ Some left) × (all ≡ bytes ++ left)
left_after all None t bytes is read = absurd (none_some all is)
left_after all (Some known) None bytes is read = absurd read
left_after all (Some known) (Some left) bytes is read = (left, refl, sym (some_some known all is) ∙ read)

none_left : (left : List ℕ) (t : Option (List ℕ)) → t ≡ Some left → IsAtEnd t → left ≡ []
none_left left None is end = absurd (none_some left is)
none_left left (Some known) is end = sym (some_some known left is) ∙ end

-- ---- blocks at the beginning of bytes

-- as many blocks with which the same bytes begin are the same, and so are the bytes after them
same_blocks : (a b : List (List ℕ)) (x y : List ℕ) → All IsBlock a → All IsBlock b → length a ≡ length b
    → joined a ++ x ≡ joined b ++ y
    → (a ≡ b) × (x ≡ y)
same_blocks [] [] x y first second count same = (refl, same)
same_blocks [] (d ∷ b) x y first second count same = absurd (omega arith)
same_blocks (c ∷ a) [] x y first second count same = absurd (omega arith)
same_blocks (c ∷ a) (d ∷ b) x y first second count same =
    let c_size : length c ≡ 8 = (first 0 [] (omega arith)).0 in
    let d_size : length d ≡ 8 = (second 0 [] (omega arith)).0 in
    let all : c ++ (joined a ++ x) ≡ d ++ (joined b ++ y) = sym (append_assoc c (joined a) x) ∙ same
    ∙ append_assoc d (joined b) y in
    let here : c ≡ d = sym (take_at c (joined a ++ x) 8 c_size) ∙ ap (take 8) all
    ∙ take_at d (joined b ++ y) 8 d_size in
    let after : joined a ++ x ≡ joined b ++ y =
    sym (drop_at c (joined a ++ x) 8 c_size) ∙ ap (drop 8) all ∙ drop_at d (joined b ++ y) 8 d_size in
    let rest = same_blocks a b x y (λ k e within. first (suc k) e (omega arith))
    (λ k e within. second (suc k) e (omega arith)) (omega arith) after in
    (ap₂ (λ (block : List ℕ) (blocks : List (List ℕ)). block ∷ blocks) here rest.0, rest.1)

some_length : (q : List (List ℕ)) → q ≢ [] → 1 ≤ length q
some_length [] some = absurd (some refl)
some_length (block ∷ q) some = omega arith

-- ---- the first part

some_count : (a b : ℕ) → Some a ≡ Some b → a ≡ b
some_count a b is = cc

-- a part of n blocks, of a list of more than n: it has n, and no padding was taken off
pub record IsFirstPart (all : List ℕ) (n : ℕ) (taken : Padding) (q : List (List ℕ)) : Type 0 where
  pub left : List ℕ
  pub split : all ≡ joined q ++ left
  pub count : length q ≡ n
  pub whole : taken ≡ Unpadded

first_part : (decryption : List ℕ → List ℕ) (mode : BlockMode) (padding : Padding) (n : ℕ) (r t u v : Option (List ℕ))
    (all : List ℕ)
    → r ≡ Some all → 8 * n + 1 ≤ length all
    → (first : DecryptsPart decryption mode padding (Some n) (passage_of r t u v))
    → IsFirstPart all n first.taken first.part.q
first_part decryption mode padding n r t u v all is more first =
    let q = first.part.q in
    let (left, middle, split) = left_after all r first.middle (joined q) is first.part.read in
    let (last, to, rest) = left_after left first.middle t first.rest middle first.read in
    let count : length all ≡ 8 * length q + length left =
    omega (arith, ap length split ∙ length-append (joined q) left, length-joined q first.part.blocks) in
    let reached : n ≡ length q = elim first.ends [
      | inl end ↦ absurd (omega (arith, ap length (none_left left first.middle middle end), count, first.within, more))
      | inr limit ↦ some_count n (length q) limit
    ] in
    let whole : first.taken ≡ Unpadded = elim first.after [
      | inl end ↦
          let none : length left ≡ 0 = ap length (rest ∙ ap₂ ◌++◌ end.0 (none_left last t to end.1)) in
          absurd (omega (arith, none, count, reached, more))
      | inr follows ↦ follows.1
    ] in
    record { left = left; split = split; count = sym reached; whole = whole }

-- ---- the second part

-- a part with no limit: its blocks are all that was left, and its padding was taken off
pub record IsLastPart (all : List ℕ) (padding taken : Padding) (q : List (List ℕ)) (rest : List ℕ)
    (t : Option (List ℕ)) : Type 0 where
  pub whole : all ≡ joined q
  pub none : rest ≡ []
  pub end : IsAtEnd t
  pub padded : taken ≡ padding
  pub some : q ≢ []

ends_alone : (r : Option (List ℕ)) (count : ℕ) → IsAtEnd r ⊎ (None ≡ Some count) → IsAtEnd r
ends_alone r count (inl end) = end
ends_alone r count (inr is) = cc

last_part : (decryption : List ℕ → List ℕ) (mode : BlockMode) (padding : Padding) (r t u v : Option (List ℕ)) (all : List ℕ)
    → r ≡ Some all
    → (last : DecryptsPart decryption mode padding None (passage_of r t u v))
    → IsLastPart all padding last.taken last.part.q last.rest t
last_part decryption mode padding r t u v all is last =
    let q = last.part.q in
    let (left, middle, split) = left_after all r last.middle (joined q) is last.part.read in
    let (after, to, rest) = left_after left last.middle t last.rest middle last.read in
    let none : left ≡ [] = none_left left last.middle middle (ends_alone last.middle (length q) last.ends) in
    elim last.after [
      | inl end ↦ record {
        whole = split ∙ ap (λ l. joined q ++ l) none ∙ append-nil (joined q);
        none = end.0;
        end = end.1;
        padded = end.2;
        some = end.3;
      }
      | inr follows ↦ absurd (omega (arith, ap length (sym none ∙ rest) ∙ length-append last.rest after, follows.0))
    ]

-- ---- both

-- a list of more than n blocks, of which the first n were read
more_blocks : (mode next : BlockMode) (n : ℕ) (r s t : Option (List ℕ)) (all left : List ℕ) (padding taken : Padding)
    (q : List (List ℕ)) (rest : List ℕ)
    → (skips : Skips mode next n r s) → all ≡ joined skips.q ++ left → All IsBlock q
    → IsLastPart left padding taken q rest t
    → 8 * n + 1 ≤ length all
more_blocks mode next n r s t all left padding taken q rest skips split blocks last =
    omega (
      arith,
      ap length split ∙ length-append (joined skips.q) left,
      length-joined skips.q skips.blocks,
      skips.size,
      ap length last.whole ∙ length-joined q blocks,
      some_length q last.some,
    )

-- the first part and the blocks after it, of the same bytes, are the whole
pub Decrypts-joined : (decryption : List ℕ → List ℕ) (mode next : BlockMode) (padding : Padding) (n : ℕ)
    (r t s m e u v w : Option (List ℕ))
    (all : List ℕ) → r ≡ Some all → s ≡ Some all → DecryptsPart decryption mode padding (Some n) (passage_of r t u v)
    → Skips mode next n s m
    → DecryptsPart decryption next padding None (passage_of m e v w)
    → Decrypts decryption mode padding (passage_of s e u w) × IsAtEnd e
Decrypts-joined decryption mode next padding n r t s m e u v w all first_is second_is first skips last =
    let (left, middle, split) = left_after all s m (joined skips.q) second_is skips.read in
    let after = last_part decryption next padding m e v w left middle last in
    let more = more_blocks mode next n s m e all left padding last.taken last.part.q last.rest skips split
    last.part.blocks after in
    let before = first_part decryption mode padding n r t u v all first_is more first in
    let (same, ends) = same_blocks first.part.q skips.q before.left left first.part.blocks skips.blocks
    (before.count ∙ sym skips.size)
    (sym before.split ∙ split) in
    let one = first.part in
    let two = last.part in
    let plain : joined one.p ≡ one.plain = one.whole ∙ ap (λ taken. padded (taken_off taken) one.plain) before.whole
    ∙ append-nil one.plain in
    let whole_blocks : length one.plain % 8 ≡ 0 = sym (ap (λ l. length l % 8) plain) ∙ one.even in
    let deciphered : Deciphered decryption mode skips.q one.p =
    subst (λ (q : List (List ℕ)). Deciphered decryption mode q one.p) same one.deciphered in
    let read : Consumes s e ((joined skips.q ++ joined two.q) ++ last.rest) =
    Consumes-trans s last.middle e _ _ (Consumes-trans s m last.middle _ _ skips.read two.read) last.read in (
      record {
        q = skips.q ++ two.q;
        p = one.p ++ two.p;
        plain = one.plain ++ two.plain;
        read = subst (Consumes s e)
            (ap (λ l. (joined skips.q ++ joined two.q) ++ l) after.none ∙ append-nil (joined skips.q ++ joined two.q)
            ∙ sym (joined-append skips.q two.q)) read;
        blocks = All-append IsBlock skips.q two.q skips.blocks two.blocks;
        deciphered = Deciphered-append decryption mode skips.q one.p two.q two.p deciphered
            (subst (λ (from : BlockMode). Deciphered decryption from two.q two.p) skips.after two.deciphered);
        whole = joined-append one.p two.p
            ∙ ap₂ ◌++◌ plain (two.whole ∙ ap (λ taken. padded (taken_off taken) two.plain) after.padded)
            ∙ sym (padded-append (taken_off padding) one.plain two.plain whole_blocks);
        even = omega (
          arith,
          ap length (joined-append one.p two.p)
              ∙ length-append (joined one.p) (joined two.p),
          one.even,
          two.even,
        );
        written = Appends-trans u v w _ _ one.written two.written;
      },
      after.end,
    )

-- so it is if the last call returns so
pub joined_done : (result : Result (Unit {0}) StreamError) {decryption : List ℕ → List ℕ} {mode next : BlockMode}
    {padding : Padding} {n : ℕ} {r t s m u v : Option (List ℕ)} (e w : Option (List ℕ))
    → DecryptsPart decryption mode padding (Some n) (passage_of r t u v) → Skips mode next n s m
    → IfOk result (λ _. DecryptsPart decryption next padding None (passage_of m e v w))
    → IfOk result (λ _. (all : List ℕ) → r ≡ Some all → s ≡ Some all
    → Decrypts decryption mode padding (passage_of s e u w) × IsAtEnd e)
joined_done (Ok done) {decryption} {mode} {next} {padding} {n} {r} {t} {s} {m} {u} {v} e w first skips last =
    λ all first_is second_is.
    Decrypts-joined decryption mode next padding n r t s m e u v w all first_is second_is first skips last
joined_done (Err fault) e w first skips last = tt

-- ---- no second part

-- the input has n blocks and no more
pub start_last : (result : Result (Unit {0}) StreamError) (decryption : List ℕ → List ℕ) {mode next : BlockMode}
    (padding : Padding) {n : ℕ} {s m : Option (List ℕ)} (r e v w : Option (List ℕ)) → Skips mode next n s m
    → IfErr result (λ fault. FailsInPart fault decryption next padding None (passage_of m e v w))
    → IfErr result (λ fault. (all : List ℕ) → r ≡ Some all → s ≡ Some all → fault ≡ Start → length all ≤ 8 * n)
start_last (Ok done) decryption padding r e v w skips fails = tt
start_last (Err fault) decryption {next = next} padding {s = s} {m = m} r e v w skips fails =
    λ all first_is is start.
    let none : Consumes m e [] × IsAtEnd e =
    subst (λ (f : StreamError). FailsInPart f decryption next padding None (passage_of m e v w)) start fails in
    let (left, middle, split) = left_after all s m (joined skips.q) is skips.read in
    let (after, to, rest) = left_after left m e [] middle none.0 in
    omega (
      arith,
      ap length split ∙ length-append (joined skips.q) left,
      length-joined skips.q skips.blocks,
      skips.size,
      ap length (rest ∙ none_left after e to none.1),
    )
