-- The end of a part that is decrypted: its last block, with more after it or at the end of the input.
use Rattle.std.proofs.Common.{◌≡◌, ◌≢◌, ◌⊎◌, inl, inr, refl, None, Some, ℕ, List, [], ◌++◌, Option, length, take, drop, ap, sym, subst, ◌∙◌, arith, length-append, append-nil, take-append-drop}
use Rattle.std.specs.Io.KnownBytes.{Consumes, Appends, IsAtEnd}
use Rattle.std.proofs.KnownBytes.{Consumes-trans, Consumes-nil}
use Rattle.std.proofs.lemmas.Option.{none-some}
use Rattle.std.specs.Prelude.{Result, Ok, Err, IfOk, IfErr}
use Rattle.des_io.specs.PaddedBytes.{padded, taken_off}
use Rattle.des_io.specs.Streams.{Passage, passage_of, joined, bytes_of, IsWithin, HoldsLast, HoldsPart, HoldsPrefix, DecryptsPart, DecryptsPartPrefix}
use Rattle.des_io.specs.StreamFaults.{EndsStream, FailsInPart}
use Rattle.des_io.specs.declared.error.StreamError.{StreamError}
use Rattle.des_io.specs.declared.error.StreamError.TheVariants.{Read, Write, Length, Start, Padding as WrongPadding}
use Rattle.des_io.specs.declared.mode.BlockMode.{BlockMode}
use Rattle.des_io.specs.declared.padding.Padding.{Padding}
use Rattle.des_io.specs.declared.padding.Padding.TheVariants.{Unpadded}
use Rattle.des_io.proofs.DecryptedEnds.{Decrypts-ended, WithinPrefix-ended, WithinPrefix-fault, IsWronglyPadded-ended}
use Rattle.des_io.proofs.DecryptedPrefixes.{DeciphersPrefix-ended, DeciphersPrefix-more, HoldsPrefix-read, WithinPrefix-pending, DecryptsPartPrefix-within}
use Rattle.des_io.proofs.ModesInPieces.{Deciphered-nil}

-- ---- what was written

-- with the last block held back
pub DecryptsPartPrefix-pending : {decryption : List ℕ → List ℕ} {mode : BlockMode} {padding : Padding} {limit : Option ℕ}
    {r t u w : Option (List ℕ)}
    → HoldsPrefix decryption mode limit (passage_of r t u w) → DecryptsPartPrefix decryption mode padding limit
    (passage_of r t u w)
DecryptsPartPrefix-pending holds = DecryptsPartPrefix-within (WithinPrefix-pending holds)

-- also if more was read
pub DecryptsPartPrefix-read : {decryption : List ℕ → List ℕ} {mode : BlockMode} {padding : Padding} {limit : Option ℕ}
    {r s t u v : Option (List ℕ)} {pending : Option (List ℕ)} (bytes : List ℕ)
    → HoldsPart decryption mode limit (passage_of r s u v) pending → Consumes s t bytes
    → DecryptsPartPrefix decryption mode padding limit (passage_of r t u v)
DecryptsPartPrefix-read bytes part read =
    DecryptsPartPrefix-pending (HoldsPrefix-read bytes part.holds part.within read)

-- a reader that gave another byte was not at its end
not_at_end : (r s t : Option (List ℕ)) (a b all : List ℕ) → Consumes r s a → Consumes s t b → length b ≡ 1
    → r ≡ Some all → IsAtEnd s → ⊥
not_at_end None s t a b all first second one is end = none-some all is
not_at_end (Some x) None t a b all first second one is end = first
not_at_end (Some x) (Some y) None a b all first second one is end = second
not_at_end (Some x) (Some y) (Some z) a b all first second one is end =
    omega (arith, ap length (sym end ∙ second) ∙ length-append b z, one)

-- the last block, or a prefix of it, if more follows
DecryptsPartPrefix-followed : {decryption : List ℕ → List ℕ} {mode : BlockMode} {padding : Padding} {limit : Option ℕ}
    {r s t u v w : Option (List ℕ)} {pending : Option (List ℕ)} (bytes put missing : List ℕ)
    → HoldsPart decryption mode limit (passage_of r s u v) pending
    → Consumes s t bytes → length bytes ≡ 1
    → put ++ missing ≡ bytes_of pending → Appends v w put → DecryptsPartPrefix decryption mode padding limit
    (passage_of r t u w)
DecryptsPartPrefix-followed {limit} {r} {s} {t} {pending} bytes put missing part read one is written =
    record {
      prefix = DeciphersPrefix-more bytes
          (DeciphersPrefix-ended put missing part.holds is written) read;
      within = part.within;
      pending = inr record {
        more = λ none. omega (arith, ap length none, one);
        reached = λ all tells. elim part.ends [
          | inl end ↦ absurd (not_at_end r s t (joined part.holds.q) bytes all part.holds.read read one tells end)
          | inr limit ↦ limit
        ];
      };
    }

-- ---- what a fault says

-- if more follows, no padding is wrong
FailsInPart-unpadded : (fault : StreamError) (decryption : List ℕ → List ℕ) (mode : BlockMode) (padding : Padding)
    (limit : Option ℕ) (passage : Passage) (v : Option (List ℕ)) (last : List ℕ)
    → EndsStream Unpadded last v passage.written_to (Err fault)
    → FailsInPart fault decryption mode padding limit passage
FailsInPart-unpadded (Read error) decryption mode padding limit passage v last ended = absurd ended.0
FailsInPart-unpadded (Write error) decryption mode padding limit passage v last ended = ended.0
FailsInPart-unpadded (Length past) decryption mode padding limit passage v last ended = absurd ended.0
FailsInPart-unpadded Start decryption mode padding limit passage v last ended = absurd ended.0
FailsInPart-unpadded WrongPadding decryption mode padding limit passage v last ended = absurd
    (ended.0 last (append-nil last))

-- at the end of the input it may be
FailsInPart-ended : (fault : StreamError) {decryption : List ℕ → List ℕ} {mode : BlockMode} (padding : Padding)
    {limit : Option ℕ} {r s u v : Option (List ℕ)} (w : Option (List ℕ)) {pending : Option (List ℕ)}
    → (part : HoldsPart decryption mode limit (passage_of r s u v) pending)
    → part.holds.q ≢ []
    → EndsStream padding (bytes_of pending) v w (Err fault) → IsAtEnd s
    → FailsInPart fault decryption mode padding limit (passage_of r s u w)
FailsInPart-ended (Read error) padding w part some ended end = absurd ended.0
FailsInPart-ended (Write error) padding w part some ended end = ended.0
FailsInPart-ended (Length past) padding w part some ended end = absurd ended.0
FailsInPart-ended Start padding w part some ended end = absurd ended.0
FailsInPart-ended WrongPadding padding {limit} w part some ended end =
    let (wrong, same) = IsWronglyPadded-ended padding part.holds ended.0 ended.1 end in (
      wrong,
      λ none. some (sym same ∙ none),
      subst (λ (q : List (List ℕ)). IsWithin limit (length q))
          (sym same) part.within,
    )

-- ---- blocks

-- a part after which nothing was read
HoldsPart-same : {decryption : List ℕ → List ℕ} {mode : BlockMode} {limit : Option ℕ} {r s t u v : Option (List ℕ)}
    {pending : Option (List ℕ)} (bytes : List ℕ) → HoldsPart decryption mode limit (passage_of r s u v) pending
    → Consumes s t bytes → bytes ≡ [] → IsAtEnd t
    → HoldsPart decryption mode limit (passage_of r t u v) pending
HoldsPart-same {r} {s} {t} bytes part read none end =
    let holds = part.holds in
    record {
      holds = record {
        q = holds.q;
        p = holds.p;
        put = holds.put;
        read = subst (Consumes r t) (ap (λ l. joined holds.q ++ l) none ∙ append-nil (joined holds.q))
            (Consumes-trans r s t _ _ holds.read read);
        blocks = holds.blocks;
        deciphered = holds.deciphered;
        whole = holds.whole;
        size = holds.size;
        even = holds.even;
        none = holds.none;
        written = holds.written;
      };
      ends = inl end;
      within = part.within;
    }

-- if a block was held back, blocks were read
some_blocks : {decryption : List ℕ → List ℕ} {mode : BlockMode} {r s u v : Option (List ℕ)} {block : List ℕ}
    → (holds : HoldsLast decryption mode (passage_of r s u v) (Some block)) → holds.q ≢ []
some_blocks {decryption} {mode} {block} holds none =
    let blocks : holds.p ≡ [] = Deciphered-nil decryption mode holds.q holds.p holds.deciphered none in
    let lengths : length (holds.put ++ block) ≡ 0 = ap length (holds.whole ∙ ap joined blocks) in
    omega (arith, length-append holds.put block, lengths, holds.size)

-- ---- the end of a part

-- a part that ends with the input, or before it
DecryptsPart-ended : {decryption : List ℕ → List ℕ} {mode : BlockMode} {padding : Padding} (taken : Padding)
    {limit : Option ℕ} {r s t u v w : Option (List ℕ)} {pending : Option (List ℕ)} (bytes plain : List ℕ)
    → (part : HoldsPart decryption mode limit (passage_of r s u v) pending)
    → Consumes s t bytes
    → padded (taken_off taken) plain ≡ bytes_of pending → Appends v w plain
    → ((bytes ≡ []) × IsAtEnd t × (taken ≡ padding) × (part.holds.q ≢ [])) ⊎ ((length bytes ≡ 1) × (taken ≡ Unpadded))
    → DecryptsPart decryption mode padding limit (passage_of r t u w)
DecryptsPart-ended taken {limit} {s} bytes plain part read is written after =
    let (all, same) = Decrypts-ended taken plain part.holds is written in
    record {
      taken = taken;
      middle = s;
      rest = bytes;
      part = all;
      ends = subst (λ (q : List (List ℕ)). IsAtEnd s ⊎ (limit ≡ Some (length q))) (sym same) part.ends;
      within = subst (λ (q : List (List ℕ)). IsWithin limit (length q)) (sym same) part.within;
      read = read;
      after = elim after [
        | inl end ↦ inl (end.0, end.1, end.2, λ none. end.3 (sym same ∙ none))
        | inr more ↦ inr more
      ];
    }

-- what holds of a part at its end: what it is, that what was written begins it, and what its fault says
pub record EndsPart (result : Result (Unit {0}) StreamError) (decryption : List ℕ → List ℕ) (mode : BlockMode)
    (padding : Padding) (limit : Option ℕ) (passage : Passage) : Type 0 where
  pub done : IfOk result (λ _. DecryptsPart decryption mode padding limit passage)
  pub prefix : DecryptsPartPrefix decryption mode padding limit passage
  pub fault : IfErr result (λ fault. FailsInPart fault decryption mode padding limit passage)

-- what was written if more follows and the writer failed
prefix_more : (fault : StreamError) {decryption : List ℕ → List ℕ} {mode : BlockMode} {padding : Padding} {limit : Option ℕ}
    {r s t u v w : Option (List ℕ)} {pending : Option (List ℕ)} (bytes : List ℕ)
    → HoldsPart decryption mode limit (passage_of r s u v) pending → Consumes s t bytes
    → length bytes ≡ 1 → EndsStream Unpadded (bytes_of pending) v w (Err fault)
    → DecryptsPartPrefix decryption mode padding limit (passage_of r t u w)
prefix_more (Read error) bytes part read one ended = absurd ended.0
prefix_more Start bytes part read one ended = absurd ended.0
prefix_more (Length past) bytes part read one ended = absurd ended.0
prefix_more WrongPadding {pending} bytes part read one ended =
    absurd (ended.0 (bytes_of pending) (append-nil (bytes_of pending)))
prefix_more (Write error) bytes part read one ended =
    let (plain, k, is, written) = ended.1 in
    DecryptsPartPrefix-followed bytes (take k plain) (drop k plain) part read one
    (take-append-drop k plain ∙ sym (append-nil plain) ∙ is) written

-- of a part that more follows
pub EndsPart-more : (result : Result (Unit {0}) StreamError) {decryption : List ℕ → List ℕ} {mode : BlockMode}
    (padding : Padding) {limit : Option ℕ} {r s t u v w : Option (List ℕ)} {pending : Option (List ℕ)} (bytes : List ℕ)
    → HoldsPart decryption mode limit (passage_of r s u v) pending → Consumes s t bytes
    → length bytes ≡ 1 → EndsStream Unpadded (bytes_of pending) v w result
    → EndsPart result decryption mode padding limit (passage_of r t u w)
EndsPart-more (Ok done) padding bytes part read one ended =
    let (plain, is, written) = ended in
    record {
      done = DecryptsPart-ended Unpadded bytes plain part read is written (inr (one, refl));
      prefix = DecryptsPartPrefix-followed bytes plain [] part read one is written;
      fault = tt;
    }
EndsPart-more (Err fault) padding {r} {t} {u} {v} {w} {pending} bytes part read one ended = record {
  done = tt;
  prefix = prefix_more fault bytes part read one ended;
  fault = FailsInPart-unpadded fault _ _ padding _ (passage_of r t u w) v (bytes_of pending) ended;
}

-- of a part at the end of the input, whose last block was held back
ends_some : (result : Result (Unit {0}) StreamError) {decryption : List ℕ → List ℕ} {mode : BlockMode} {padding : Padding}
    {limit : Option ℕ} {r t u v w : Option (List ℕ)} {block : List ℕ}
    → HoldsPart decryption mode limit (passage_of r t u v) (Some block) → IsAtEnd t
    → EndsStream padding block v w result → EndsPart result decryption mode padding limit (passage_of r t u w)
ends_some (Ok done) {padding} {t} part end ended =
    let (plain, is, written) = ended in
    let some = some_blocks part.holds in
    record {
      done = DecryptsPart-ended padding [] plain part (Consumes-nil t) is written
          (inl (refl, end, refl, some));
      prefix = DecryptsPartPrefix-within
          (WithinPrefix-ended plain plain [] part.holds part.within end is (append-nil plain) written);
      fault = tt;
    }
ends_some (Err fault) {padding} {w} part end ended = record {
  done = tt;
  prefix = DecryptsPartPrefix-within (WithinPrefix-fault fault part.holds part.within ended end);
  fault = FailsInPart-ended fault padding w part (some_blocks part.holds) ended end;
}

pub EndsPart-last : (result : Result (Unit {0}) StreamError) {decryption : List ℕ → List ℕ} {mode : BlockMode}
    {padding : Padding} {limit : Option ℕ} {r s t u v w : Option (List ℕ)} (pending : Option (List ℕ))
    (block bytes : List ℕ) → pending ≡ Some block
    → HoldsPart decryption mode limit (passage_of r s u v) pending → Consumes s t bytes → bytes ≡ [] → IsAtEnd t
    → EndsStream padding (bytes_of pending) v w result
    → EndsPart result decryption mode padding limit (passage_of r t u w)
EndsPart-last result None block bytes is part read none end ended = absurd
    (none-some block is)
EndsPart-last result (Some pending) block bytes is part read none end ended =
    ends_some result (HoldsPart-same bytes part read none end) end ended
