-- The one plaintext of blocks that CBC encrypted under the relation of a key; and what is opened of them: what the blocks
-- before the last one hold, and the last one without its padding.
use Rattle.std.proofs.Common.{◌≡◌, ◌≢◌, ℕ, ◌+◌, ◌*◌, ◌-◌, ◌<◌, ◌≤◌, List, [], ◌∷◌, ◌++◌, length, take, drop, slice_range, refl, ap, ap₂, sym, ◌∙◌, subst, arith, true, false, take_at}
use Rattle.std.specs.Prelude.{ℤ}
use Rattle.std.specs.List.{All}
use Rattle.std.proofs.lemmas.Grind.{common_steps}
use Rattle.std.proofs.lemmas.List.{length-append}
use Rattle.std.proofs.lemmas.List.Elements.{All-head, All-tail, All-cons, All-from_get_or, All-take}
use Rattle.des.specs.Blocks.{IsBlock, IsKey}
use Rattle.des.specs.Cbc.{block_at, block_before, next_vector, CbcUnder}
use Rattle.des.specs.Relations.{IsTheOne, TakesBlock}
use Rattle.des.proofs.ChainedPieces.{CbcUnder-append}
use Rattle.des.proofs.Graphs.{IsBijection-key, IsGraphOf-encryption, IsGraphOf-decryption}
use Rattle.des.proofs.TripleGraphs.{HasGraphs, HasGraphs-Triple}
use Rattle.des.proofs.CbcDecryptedLists.{cbc_decrypted, CbcDecrypts-cbc_decrypted, cbc_decrypted-from}
use Rattle.des.proofs.XoredBlocks.{xor_blocks-undone}
use Rattle.des_fast.proofs.RelatedCbc.{CbcUnder-related_back}
use Rattle.des_io.specs.PaddedBytes.{padded, taken_off}
use Rattle.des_io.specs.Streams.{joined}
use Rattle.des_io.specs.declared.padding.Padding.TheVariants.{Pkcs7, Unpadded}
use Rattle.des_io.proofs.EncryptedPieces.{joined-append}
use Rattle.des_io.proofs.PaddedLists.{padded-append, padded-injective}
use Rattle.des_context.specs.declared.ciphers.CipherType.{CipherType}
use Rattle.des_context.specs.declared.ciphers.CipherType.TheVariants.{Des, Ede2, Ede3}
use Rattle.des_context.specs.declared.status.TheConstants.{OK}
use Rattle.des_context.specs.Bytes.{AreWhole, blocks_of}
use Rattle.des_context.specs.CipherTypes.{parts_of, relation_by, encryption_by, decryption_by}
use Rattle.des_context.specs.Salted.{EndsWith, IsOpened, IsPlainOf, Opens}
use Rattle.des_context.proofs.PaddedCounts.{last_padded}
use borrow.Rule.Slice.PartMut.{put_mid}
use lib.Seq.{take-add}

-- a key's graphs are its relation
pub HasGraphs-cipher_type : (cipher_type : CipherType) (key : List ℕ) → IsKey (8 * parts_of cipher_type) key
    → HasGraphs (encryption_by cipher_type key) (decryption_by cipher_type key) (λ x y. relation_by cipher_type key x y)
HasGraphs-cipher_type Des key is = record {
  bijective = IsBijection-key key is;
  encryption = IsGraphOf-encryption key is;
  decryption = IsGraphOf-decryption key is;
}
HasGraphs-cipher_type Ede2 key is = HasGraphs-Triple false true key is
HasGraphs-cipher_type Ede3 key is = HasGraphs-Triple true true key is

-- ---- the plaintext of blocks

abbrev IsEight : List ℕ → Type 0
IsEight block = length block ≡ 8

length-eights : (blocks : List (List ℕ)) → All IsEight blocks → length (joined blocks) ≡ 8 * length blocks
length-eights [] eight = refl
length-eights (block ∷ blocks) eight =
    omega (
      arith,
      length-append block (joined blocks),
      All-head IsEight block blocks eight,
      length-eights blocks (All-tail IsEight block blocks eight),
    )

pub length-plain : {Relates : List ℕ → List ℕ → Type 0} {iv bytes : List ℕ} {q : List (List ℕ)}
    → IsPlainOf Relates iv q bytes → length bytes ≡ 8 * length q
length-plain (p, chains, is) =
    let eight : All IsEight p = All-from_get_or IsEight p [] (λ k within.
    let next : k + 1 - 1 ≡ k = omega arith in rw next at (chains.widths (k + 1) (omega arith) (omega arith))) in
    omega (arith, ap length is, length-eights p eight, chains.count)

pub IsPlainOf-append : {Relates : List ℕ → List ℕ → Type 0} {iv bytes other : List ℕ} {q more : List (List ℕ)}
    → IsPlainOf Relates iv q bytes → IsPlainOf Relates (next_vector iv q) more other
    → IsPlainOf Relates iv (q ++ more) (bytes ++ other)
IsPlainOf-append (p, chains, is) (r, also, so) =
    (p ++ r, CbcUnder-append _ _ p _ r _ chains also, joined-append p r ∙ ap₂ ◌++◌ is so)

-- there is one
pub IsTheOne-plain : {forth back : List ℕ → List ℕ} {Relates : List ℕ → List ℕ → Type 0} → HasGraphs forth back Relates
    → (iv : List ℕ) (q : List (List ℕ)) → IsBlock iv → All IsBlock q
    → IsTheOne (IsPlainOf Relates iv q) (joined (cbc_decrypted back iv q))
IsTheOne-plain {forth} {back} {Relates} by iv q is_iv are =
    let undone : (block : List ℕ) → IsBlock block → TakesBlock forth (back block) block =
    λ block is. (by.encryption (back block) block).0 ((by.decryption block (back block)).1 (is, refl)) in (
      (
        cbc_decrypted back iv q,
        CbcUnder-related_back Relates forth back by.encryption iv (cbc_decrypted back iv q) q is_iv are
            (λ block is. (undone block is).0) (λ block is. (undone block is).1)
            (CbcDecrypts-cbc_decrypted back iv q (cbc_decrypted back iv q) refl),
        refl,
      ),
      λ bytes is.
          let p : List (List ℕ) = is.0 in
          let chains : CbcUnder Relates iv p q = is.1 in
          sym is.2 ∙ ap joined (cbc_decrypted-from back iv q p (record {
            count = sym chains.count;
            cbc_decrypted = λ n from within.
                let inside : n ≤ length p = omega (arith, chains.count) in
                let before : IsBlock (block_before iv q n) = All-cons IsBlock iv q is_iv are (n - 1) [] (omega arith) in
                rw (
                  ((by.decryption (block_at q n) _).0 (chains.chained n from inside)).1,
                  xor_blocks-undone (block_at p n) (block_before iv q n) (chains.widths n from inside ∙ sym before.0),
                )
                refl;
          })),
    )

-- ---- parts of lists

pub take-range : {X : Type 0} (from to : ℕ) (xs : List X) → from ≤ to → take from xs ++ slice_range xs from to ≡ take to xs
take-range from to xs within = let end : from + (to - from) ≡ to = omega arith in rw (← take-add, end) refl

-- a part put into a list, behind what it begins with
pub put-behind : (front part old now : List ℕ) (from to : ℕ) → length front ≡ from → from ≤ to
    → now ≡ front ++ drop from old → put_mid from (to - from) now part ≡ (front ++ part) ++ drop to old
put-behind front part old now from to long within is = grind (arith, common_steps)

-- ---- what is opened

takes_off : taken_off Pkcs7 ≢ Unpadded
takes_off = λ same. cc

-- the last of the blocks is decrypted by the CBC that goes on after the others
module _ {forth back : List ℕ → List ℕ} {Relates : List ℕ → List ℕ → Type 0} (by : HasGraphs forth back Relates)
    (vector encrypted : List ℕ) (front : List (List ℕ)) (last end : List ℕ) (is_vector : IsBlock vector)
    (whole : AreWhole encrypted) (are : All IsBlock (blocks_of encrypted))
    (cut : blocks_of encrypted ≡ front ++ (last ∷ []))
    (ends : IsPlainOf Relates (next_vector vector front) (last ∷ []) end) where
  started : IsTheOne (IsPlainOf Relates vector front) (joined (cbc_decrypted back vector front))
  started =
      IsTheOne-plain by vector front is_vector
      (subst (All IsBlock) (ap (take (length front)) cut ∙ take_at front (last ∷ []) (length front) refl)
      (All-take IsBlock (length front) (blocks_of encrypted) are))

  -- what they hold and the last is what all hold
  all : (start : List ℕ) → IsPlainOf Relates vector front start
      → IsTheOne (IsPlainOf Relates vector (blocks_of encrypted)) (start ++ end)
  all start is =
      let one = IsTheOne-plain by vector (blocks_of encrypted) is_vector are in
      let both : IsPlainOf Relates vector (blocks_of encrypted) (start ++ end) = rw cut (IsPlainOf-append is ends) in
      (both, λ other holds. one.1 other holds ∙ sym (one.1 (start ++ end) both))

  pub EndsWith-padded : (plain : List ℕ) → padded Pkcs7 plain ≡ end → EndsWith Relates vector encrypted front plain
  EndsWith-padded plain pads = record {
    some = (joined (cbc_decrypted back vector front), started.0);
    opens = λ start is.
        let same : padded Pkcs7 (start ++ plain) ≡ start ++ end =
        padded-append Pkcs7 start plain (omega (arith, length-plain is)) ∙ ap (λ (l : List ℕ). start ++ l) pads in (
          (whole, rw same (all start is).0),
          λ other opened.
              padded-injective Pkcs7 other (start ++ plain)
              ((all start is).1 (padded Pkcs7 other) opened.1 ∙ sym same),
        );
  }

  -- there is none if the last block does not end with padding
  pub opened-never : ((rest : List ℕ) → padded Pkcs7 rest ≢ end) → (plain : List ℕ)
      → ¬ (IsOpened Relates vector encrypted plain)
  opened-never never plain opened =
      let start : List ℕ = joined (cbc_decrypted back vector front) in
      let parts = last_padded Pkcs7 plain start end takes_off (length-plain ends) (omega (arith, length-plain started.0))
      ((all start started.0).1 (padded Pkcs7 plain) opened.1) in
      never parts.0 parts.2

-- ---- what a call does that opens

pub Opens-refused : {Holds : List ℕ → Type 0} {IsFault : ℤ → Type 0} {old : List ℕ} {size : ℕ} {status : ℤ}
    → status ≢ OK → IsFault status → ((text : List ℕ) → Holds text → length old < length text)
    → Opens Holds IsFault old old size size status
Opens-refused failed fault none =
    record { opened = λ done. absurd (failed done); refused = λ failed. (fault, none, refl, refl) }
