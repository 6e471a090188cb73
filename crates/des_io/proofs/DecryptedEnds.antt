-- The end of a stream that is decrypted: its last block without the padding, or wrong padding.
use Rattle.std.proofs.Common.{◌≡◌, ◌≢◌, inr, ℕ, ◌-◌, ◌%◌, List, [], ◌++◌, Option, None, Some, length, take, drop, refl, ap, sym, subst, ◌∙◌, arith, append_assoc, append-nil, take-append-drop, length-append, take_at}
use Rattle.std.specs.Prelude.{Err}
use Rattle.std.specs.Io.KnownBytes.{Appends, IsAtEnd}
use Rattle.std.proofs.KnownBytes.{Appends-trans, Consumes-nil}
use Rattle.std.proofs.lemmas.List.{append_cancel_left}
use Rattle.des_io.specs.PaddedBytes.{padded, padding_after, taken_off}
use Rattle.des_io.specs.Streams.{passage_of, joined, bytes_of, IsBlockIfThere, IsWithin, HoldsLast, Decrypts}
use Rattle.des_io.specs.StreamFaults.{EndsStream, IsWronglyPadded, FailsToDecrypt}
use Rattle.des_io.specs.declared.error.StreamError.{StreamError}
use Rattle.des_io.specs.declared.error.StreamError.TheVariants.{Read, Write, Length, Start, Padding as WrongPadding}
use Rattle.des_io.specs.declared.mode.BlockMode.{BlockMode}
use Rattle.des_io.specs.declared.padding.Padding.{Padding}
use Rattle.des_io.specs.declared.padding.Padding.TheVariants.{Pkcs7, Iso7816, Zeros, Unpadded}
use Rattle.des_io.proofs.DecryptedPrefixes.{DeciphersPrefix-ended, HoldsPrefix-read, WithinPrefix, WithinPrefix-pending}
use Rattle.des_io.proofs.DecryptedPieces.{even_bytes}
use Rattle.des_io.proofs.PaddedLists.{padded-append, last_block}

-- what was written and the last block are whole blocks
even_whole : {decryption : List ℕ → List ℕ} {mode : BlockMode} {r s u v : Option (List ℕ)} {pending : Option (List ℕ)}
    → (so_far : HoldsLast decryption mode (passage_of r s u v) pending) → length (joined so_far.p) % 8 ≡ 0
even_whole {pending} so_far =
    omega (
      arith,
      ap length (sym so_far.whole) ∙ length-append so_far.put
          (bytes_of pending),
      so_far.even,
      even_bytes pending so_far.size,
    )

-- the last bytes without their padding
pub Decrypts-ended : {decryption : List ℕ → List ℕ} {mode : BlockMode} (padding : Padding) {r s u v w : Option (List ℕ)}
    {pending : Option (List ℕ)} (plain : List ℕ)
    → (so_far : HoldsLast decryption mode (passage_of r s u v) pending) → padded (taken_off padding) plain ≡ bytes_of pending
    → Appends v w plain
    → (all : Decrypts decryption mode padding (passage_of r s u w)) × (all.q ≡ so_far.q)
Decrypts-ended padding {u} {v} {w} plain so_far is written = (
  record {
    q = so_far.q;
    p = so_far.p;
    plain = so_far.put ++ plain;
    read = so_far.read;
    blocks = so_far.blocks;
    deciphered = so_far.deciphered;
    whole = sym so_far.whole ∙ ap (λ l. so_far.put ++ l) (sym is)
        ∙ sym (padded-append (taken_off padding) so_far.put plain so_far.even);
    even = even_whole so_far;
    written = Appends-trans u v w _ _ so_far.written written;
  },
  refl,
)

-- a prefix of them
pub WithinPrefix-ended : {decryption : List ℕ → List ℕ} {mode : BlockMode} {padding : Padding} {limit : Option ℕ}
    {r s u v w : Option (List ℕ)} {pending : Option (List ℕ)} (plain put missing : List ℕ)
    → (so_far : HoldsLast decryption mode (passage_of r s u v) pending)
    → IsWithin limit (length so_far.q)
    → IsAtEnd s → padded (taken_off padding) plain ≡ bytes_of pending → put ++ missing ≡ plain → Appends v w put
    → WithinPrefix decryption mode padding limit (passage_of r s u w)
WithinPrefix-ended {padding} {pending} plain put missing so_far within end is begins written =
    let after = padding_after (taken_off padding) (length plain % 8) in
    let prefix = sym (append_assoc put missing after) ∙ ap (λ l. l ++ after) begins ∙ is in
    record {
      prefix = DeciphersPrefix-ended put (missing ++ after) so_far prefix written;
      within = within;
      pending = inr record {
        plain = so_far.put ++ plain;
        missing = missing;
        end = end;
        all = refl;
        whole = padded-append (taken_off padding) so_far.put plain so_far.even ∙ ap (λ l. so_far.put ++ l) is
            ∙ so_far.whole;
        begins = append_assoc so_far.put put missing ∙ ap (λ l. so_far.put ++ l) begins;
      };
    }

-- ---- wrong padding

-- what is not the last bytes with their padding is not the whole with its padding
wrong_whole : (padding : Padding) (pending : Option (List ℕ)) (prefix all : List ℕ) → IsBlockIfThere pending
    → length prefix % 8 ≡ 0 → prefix ++ bytes_of pending ≡ all
    → (pending ≡ None → all ≡ []) → ((plain : List ℕ) → padded (taken_off padding) plain ≢ bytes_of pending)
    → (plain : List ℕ)
    → padded (taken_off padding) plain ≢ all
wrong_whole Unpadded pending prefix all size even is none wrong plain same = absurd
    (wrong (bytes_of pending) (append-nil (bytes_of pending)))
wrong_whole Zeros pending prefix all size even is none wrong plain same = absurd
    (wrong (bytes_of pending) (append-nil (bytes_of pending)))
wrong_whole Pkcs7 None prefix all size even is none wrong plain same = absurd (wrong plain (same ∙ none refl))
wrong_whole Iso7816 None prefix all size even is none wrong plain same = absurd (wrong plain (same ∙ none refl))
wrong_whole Pkcs7 (Some block) prefix all size even is none wrong plain same =
    let (rest, split) = last_block Pkcs7 plain prefix block (λ e. cc) size (same ∙ sym is) in
    wrong rest (append_cancel_left prefix _ _ (sym (padded-append Pkcs7 prefix rest even) ∙ ap (padded Pkcs7) (sym split) ∙ same
    ∙ sym is))
wrong_whole Iso7816 (Some block) prefix all size even is none wrong plain same =
    let (rest, split) = last_block Iso7816 plain prefix block (λ e. cc) size (same ∙ sym is) in
    wrong rest (append_cancel_left prefix _ _ (sym (padded-append Iso7816 prefix rest even) ∙ ap (padded Iso7816) (sym split)
    ∙ same ∙ sym is))

-- all but a block that may be there
all_but : (pending : Option (List ℕ)) (prefix all : List ℕ) → IsBlockIfThere pending → prefix ++ bytes_of pending ≡ all
    → (pending ≡ None → all ≡ [])
    → take (length all - 8) all ≡ prefix
all_but None prefix all size is none =
    let empty : all ≡ [] = none refl in
    ap (λ l. take (length l - 8) l) empty ∙ sym empty ∙ sym is ∙ append-nil prefix
all_but (Some block) prefix all size is none =
    let count : length all - 8 ≡ length prefix = omega (arith, ap length (sym is) ∙ length-append prefix block, size) in
    ap (λ n. take n all) count ∙ ap (take (length prefix)) (sym is) ∙ take_at prefix block (length prefix) refl

pub IsWronglyPadded-ended : {decryption : List ℕ → List ℕ} {mode : BlockMode} (padding : Padding)
    {r s u v w : Option (List ℕ)} {pending : Option (List ℕ)}
    → (so_far : HoldsLast decryption mode (passage_of r s u v) pending)
    → ((plain : List ℕ) → padded (taken_off padding) plain ≢ bytes_of pending)
    → w ≡ v
    → IsAtEnd s → (wrong : IsWronglyPadded decryption mode padding (passage_of r s u w)) × (wrong.q ≡ so_far.q)
IsWronglyPadded-ended padding {u} {w} {pending} so_far wrong same end =
    let none : pending ≡ None → joined so_far.p ≡ [] = λ e. ap joined (so_far.none e) in (
      record {
        q = so_far.q;
        p = so_far.p;
        read = so_far.read;
        end = end;
        blocks = so_far.blocks;
        deciphered = so_far.deciphered;
        wrong = wrong_whole padding pending so_far.put (joined so_far.p) so_far.size so_far.even so_far.whole none wrong;
        written = subst (Appends u w) (sym (all_but pending so_far.put (joined so_far.p) so_far.size so_far.whole none))
            (subst (λ (x : Option (List ℕ)). Appends u x so_far.put) (sym same) so_far.written);
      },
      refl,
    )

-- ---- faults at the end

-- what a fault at the end says
pub FailsToDecrypt-ended : (fault : StreamError) {decryption : List ℕ → List ℕ} {mode : BlockMode} (padding : Padding)
    {r s u v : Option (List ℕ)} (w : Option (List ℕ)) {pending : Option (List ℕ)}
    → HoldsLast decryption mode (passage_of r s u v) pending
    → EndsStream padding (bytes_of pending) v w (Err fault)
    → IsAtEnd s → FailsToDecrypt fault decryption mode padding (passage_of r s u w)
FailsToDecrypt-ended (Read error) padding w so_far ended end = absurd ended.0
FailsToDecrypt-ended (Write error) padding w so_far ended end = ended.0
FailsToDecrypt-ended (Length past) padding w so_far ended end = absurd ended.0
FailsToDecrypt-ended Start padding w so_far ended end = absurd ended.0
FailsToDecrypt-ended WrongPadding padding w so_far ended end =
    (IsWronglyPadded-ended padding so_far ended.0 ended.1 end).0

-- and the prefix that was written before it
pub WithinPrefix-fault : (fault : StreamError) {decryption : List ℕ → List ℕ} {mode : BlockMode} {padding : Padding}
    {limit : Option ℕ} {r s u v w : Option (List ℕ)} {pending : Option (List ℕ)}
    → (so_far : HoldsLast decryption mode (passage_of r s u v) pending)
    → IsWithin limit (length so_far.q)
    → EndsStream padding (bytes_of pending) v w (Err fault) → IsAtEnd s
    → WithinPrefix decryption mode padding limit (passage_of r s u w)
WithinPrefix-fault WrongPadding {decryption} {mode} {padding} {limit} {r} {s} {u} so_far within ended end =
    let holds = HoldsPrefix-read [] so_far within (Consumes-nil s) in
    subst (λ (x : Option (List ℕ)). WithinPrefix decryption mode padding limit (passage_of r s u x)) (sym ended.1)
    (WithinPrefix-pending holds)
WithinPrefix-fault (Read error) so_far within ended end = absurd ended.0
WithinPrefix-fault Start so_far within ended end = absurd ended.0
WithinPrefix-fault (Length past) so_far within ended end = absurd ended.0
WithinPrefix-fault (Write error) so_far within ended end =
    let (plain, k, is, written) = ended.1 in
    WithinPrefix-ended plain (take k plain) (drop k plain) so_far within end is
    (take-append-drop k plain) written
