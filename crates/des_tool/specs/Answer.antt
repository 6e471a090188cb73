-- What answers the arguments of a command line.
use Rattle.std.specs.Prelude.{◌≡◌, ◌⊎◌, ℕ, List, MatchOption, codes}
use Rattle.std.specs.List.{concat}
use Rattle.des.specs.Blocks.{AnswersEach}
use Rattle.des.specs.Cbc.{CbcUnder}
use Rattle.des.specs.Enciphering.{Enciphers}
use Rattle.des.specs.WeakKeys.{IsRefused}
use Rattle.des.specs.Triple.{EnciphersEde3, EnciphersEee3, EnciphersEde2, EnciphersEee2}
use Rattle.des_tool.specs.declared.command.request.Cipher.{Cipher}
use Rattle.des_tool.specs.declared.command.request.Cipher.TheVariants.{Des, Ede3, Eee3, Ede2, Eee2}
use Rattle.des_tool.specs.declared.command.request.Direction.{Direction}
use Rattle.des_tool.specs.declared.command.request.Direction.TheVariants.{Encrypt, Decrypt}
use Rattle.des_tool.specs.Digits.{bytes_of_digits, text_of_blocks}
use Rattle.des_tool.specs.Request.{Request, of_blocks, of_cbc, of_weak, request_of, block_cipher_of}

-- what a cipher is: the relation between the bytes of a key, a block and the block that it is
-- enciphered to
abbrev pub relation_of : Cipher → List ℕ → List ℕ → List ℕ → Type 0
relation_of Des key first last = Enciphers key first last
relation_of Ede3 key first last = EnciphersEde3 key first last
relation_of Eee3 key first last = EnciphersEee3 key first last
relation_of Ede2 key first last = EnciphersEde2 key first last
relation_of Eee2 key first last = EnciphersEee2 key first last

-- a relation of blocks, or of lists of blocks, read in a direction: from the first to the second,
-- or from the second to the first
abbrev pub ReadIn : {A : Type 0} → Direction → (A → A → Type 0) → A → A → Type 0
ReadIn Encrypt Relates given result = Relates given result
ReadIn Decrypt Relates given result = Relates result given

-- the text is that of the list to which the list of blocks is related that the digits write. What a
-- cipher relates are blocks, by ECB or CBC, so the bytes of the digits can be cut into one list alone
pub record IsTextOf (Relates : List (List ℕ) → List (List ℕ) → Type 0)
    (digits text : List ℕ) : Type 0 where
  pub blocks : List (List ℕ)
  pub results : List (List ℕ)
  pub joined : concat blocks ≡ bytes_of_digits digits
  pub related : Relates blocks results
  pub written : text ≡ text_of_blocks results

-- the text says whether the weak key test refuses the key
abbrev pub IsVerdict : List ℕ → List ℕ → Type 0
IsVerdict key text =
    (IsRefused key × (text ≡ codes "WeakKey\n"))
    ⊎ ((¬ (IsRefused key)) × (text ≡ codes "Ok\n"))

-- the text answers the request, under the key that its digits write: block by block, or by CBC from
-- the vector
abbrev pub AnswersRequest : Request → List ℕ → Type 0
AnswersRequest (of_blocks cipher direction key digits) text =
    IsTextOf (AnswersEach (ReadIn direction (relation_of cipher (bytes_of_digits key)))) digits text
AnswersRequest (of_cbc cipher direction key vector digits) text =
    IsTextOf (ReadIn direction (CbcUnder
    (relation_of (block_cipher_of cipher) (bytes_of_digits key)) (bytes_of_digits vector)))
    digits text
AnswersRequest (of_weak key) text = IsVerdict (bytes_of_digits key) text

-- the text answers the arguments
abbrev pub IsAnswer : List (List ℕ) → List ℕ → Type 0
IsAnswer arguments text =
    MatchOption (request_of arguments) ⊥ (λ request. AnswersRequest request text)
