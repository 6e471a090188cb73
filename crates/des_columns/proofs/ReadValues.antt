-- What is decrypted of values is what was encrypted to them.
use Rattle.std.proofs.Common.{◌≡◌, ℕ, ℤ, zero, suc, ◌-◌, ◌*◌, ◌/◌, ◌%◌, ◌<◌, ◌≤◌, ◌==◌, ◌&&◌, nat_le, Bool, true, false, if◌then◌else◌, Option, Some, None, List, [], ◌∷◌, length, take, drop, map, get_or, refl, ap, ◌∙◌, arith}
use Rattle.std.specs.List.{All}
use Rattle.std.specs.Simd.{first_chunks}
use Rattle.std.specs.Simd.Lanes.{zip2}
use Rattle.std.proofs.lemmas.List.{get_or-map, length-drop, length-map, length-take-le}
use Rattle.std.proofs.lemmas.List.Elements.{All-cons, All-drop, All-nil, All-take}
use Rattle.std.proofs.lemmas.Simd.{get_or-zip2}
use Rattle.std.proofs.lemmas.Bool.{and_parts}
use Rattle.std.proofs.lemmas.Bool.Decides.{nat_tests}
use Rattle.des.specs.Blocks.{AreBytes, IsBlock, AnswersEach}
use Rattle.des.specs.Cbc.{xor_blocks}
use Rattle.des.specs.Relations.{IsGraphOf}
use Rattle.des_fast.proofs.RelatedCbc.{CbcUnder-related_back}
use Rattle.des_columns.specs.Columns.{plain_of}
use Rattle.des_columns.specs.EncryptedBytes.{AreEncrypted, IsEncrypted}
use Rattle.des_columns.specs.Mysql.{has_form}
use Rattle.des_columns.specs.Forms.{HasVector, blocks_of, fault_before, part_after, part_of, xored}
use Rattle.des_columns.specs.declared.form.BlockMode.{BlockMode}
use Rattle.des_columns.specs.declared.form.BlockMode.TheVariants.{Ecb, Cbc}
use Rattle.des_columns.specs.declared.form.ValueForm.{ValueForm}
use Rattle.des_columns.specs.declared.form.ValueForm.TheVariants.{Mysql, Pkcs7, Unpadded}
use Rattle.des_columns.specs.declared.status.TheConstants.{ERR_NOT_ENCRYPTED, ERR_BLOCKS}
use Rattle.des_columns.proofs.JoinedBlocks.{joined_chunks}

-- ---- the blocks of a value

-- chunks of bytes are blocks
pub chunks-are_blocks : (k : ℕ) (bytes : List ℕ) → AreBytes bytes → 8 * k ≤ length bytes → All IsBlock (first_chunks 8 k bytes)
chunks-are_blocks zero bytes are fits = All-nil IsBlock
chunks-are_blocks (suc k) bytes are fits =
    All-cons IsBlock (take 8 bytes) (first_chunks 8 k (drop 8 bytes))
    (length-take-le 8 bytes (omega (arith, fits)), All-take (λ byte. byte < 256) 8 bytes are)
    (chunks-are_blocks k (drop 8 bytes) (All-drop (λ byte. byte < 256) 8 bytes are)
    (omega (arith, length-drop 8 bytes, fits)))

-- the encrypted part of a value is whole blocks
whole-if : (test : Bool) (form : ValueForm) (value : List ℕ) (fault : ℤ)
    → (test ≡ true → length (part_after None form value) % 8 ≡ 0)
    → length (part_after (if test then None else Some fault) form value) % 8 ≡ 0
whole-if true form value fault whole = whole refl
whole-if false form value fault whole = refl

part-whole : (form : ValueForm) (value : List ℕ) → length (part_of form value) % 8 ≡ 0
part-whole Mysql [] = refl
part-whole Mysql (byte ∷ value) =
    whole-if (has_form (byte ∷ value)) Mysql (byte ∷ value) ERR_NOT_ENCRYPTED (λ is.
    let bytes : List ℕ = byte ∷ value in
    let size : (length bytes % 8 == 1) ≡ true =
    (and_parts (nat_le 9 (length bytes)) (length bytes % 8 == 1)
    (and_parts (nat_le 9 (length bytes) && (length bytes % 8 == 1)) (nat_le 128 byte) is).0).1 in
    grind (arith, nat_tests, size))
part-whole Pkcs7 [] = refl
part-whole Pkcs7 (byte ∷ value) =
    whole-if (length (byte ∷ value) % 8 == 0) Pkcs7 (byte ∷ value) ERR_BLOCKS (λ is. grind (arith, nat_tests, is))
part-whole Unpadded value =
    whole-if (length value % 8 == 0) Unpadded value ERR_BLOCKS (λ is. grind (arith, nat_tests, is))

-- and bytes
part-bytes : (fault : Option ℤ) (form : ValueForm) (value : List ℕ) → AreBytes value → AreBytes (part_after fault form value)
part-bytes (Some fault) form value are = All-nil (λ byte. byte < 256)
part-bytes None Mysql value are = All-drop (λ byte. byte < 256) 1 value are
part-bytes None Pkcs7 value are = are
part-bytes None Unpadded value are = are

-- ---- what was encrypted

pub length-zipped : {X Y Z : Type 0} (f : X → Y → Z) (xs : List X) (ys : List Y) → length xs ≤ length ys
    → length (zip2 f xs ys) ≡ length xs
length-zipped f [] ys fits = refl
length-zipped f (x ∷ xs) [] fits = absurd (omega (arith, fits))
length-zipped f (x ∷ xs) (y ∷ ys) fits = ap suc (length-zipped f xs ys (omega (arith, fits)))

module _ (Relates : List ℕ → List ℕ → Type 0) (encryption decryption : List ℕ → List ℕ)
    (graph : IsGraphOf encryption Relates)
    (makes_blocks : (block : List ℕ) → IsBlock block → IsBlock (decryption block))
    (undoes : (block : List ℕ) → IsBlock block → encryption (decryption block) ≡ block) where
  -- blocks, each decrypted, are related to them
  each-related : (blocks : List (List ℕ)) → All IsBlock blocks → AnswersEach Relates (map decryption blocks) blocks
  each-related [] are = tt
  each-related (block ∷ blocks) are =
      let is = are 0 [] (omega arith) in (
        (graph (decryption block) block).1 (makes_blocks block is, undoes block is),
        each-related blocks (λ k d below. are (suc k) d (omega (arith, below))),
      )

  -- what blocks are decrypted to was encrypted to them
  blocks-encrypted : (mode : BlockMode) (blocks : List (List ℕ)) → HasVector mode → All IsBlock blocks
      → AreEncrypted mode Relates (xored mode blocks (map decryption blocks)) blocks
  blocks-encrypted Ecb blocks vector are = each-related blocks are
  blocks-encrypted (Cbc iv) blocks vector are =
      let answers = map decryption blocks in
      let plain = zip2 xor_blocks answers (iv ∷ blocks) in
      let count : length answers ≡ length blocks = length-map blocks decryption in
      CbcUnder-related_back Relates encryption decryption graph iv plain blocks vector are makes_blocks undoes
      (record {
        count = length-zipped xor_blocks answers (iv ∷ blocks) (omega (arith, count)) ∙ count;
        cbc_decrypted = λ n from within.
            get_or-zip2 xor_blocks answers (iv ∷ blocks) (n - 1) [] [] [] (omega (arith, count, within, from))
            (omega (arith, within, from))
            ∙ ap (λ (l : List ℕ). xor_blocks l (get_or (iv ∷ blocks) (n - 1) []))
            (get_or-map decryption blocks (n - 1) [] [] (omega (arith, within, from)));
      })

  -- what a value is decrypted to was encrypted to its part
  pub plain-encrypted : (form : ValueForm) (mode : BlockMode) (value : List ℕ) → HasVector mode → AreBytes value
      → IsEncrypted mode Relates (plain_of form mode (λ value. decryption) value) (part_of form value)
  plain-encrypted form mode value vector are = record {
    p_blocks = xored mode (blocks_of form value) (map decryption (blocks_of form value));
    q_blocks = blocks_of form value;
    of_p = refl;
    of_q = joined_chunks (part_of form value) (part-whole form value);
    encrypted =
        blocks-encrypted mode (blocks_of form value) vector
        (chunks-are_blocks (length (part_of form value) / 8) (part_of form value)
        (part-bytes (fault_before form value) form value are) (omega arith));
  }
