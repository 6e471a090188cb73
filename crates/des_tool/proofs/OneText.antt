-- Arguments are answered by one text: digits' bytes are cut into one list of blocks, and a cipher takes each block to one.
use Rattle.std.proofs.Common.{◌≡◌, ℕ, List, Option, Some, None, MatchOption, inl, inr, sym, ap, ◌∙◌}
use Rattle.des.specs.Blocks.{IsKey}
use Rattle.des.specs.Relations.{IsTheOne}
use Rattle.des_tool.specs.declared.command.request.Cipher.{Cipher}
use Rattle.des_tool.specs.declared.command.request.Cipher.TheVariants.{Des, Ede3, Eee3, Ede2, Eee2}
use Rattle.des_tool.specs.Digits.{bytes_of_digits, text_of_blocks}
use Rattle.des_tool.specs.Request.{Request, of_blocks, of_cbc, of_weak, request_of, key_size_of, block_cipher_of}
use Rattle.des_tool.specs.Answer.{ReadIn, relation_of, IsTextOf, IsVerdict, AnswersRequest, IsAnswer}
use Rattle.des_tool.proofs.KeyGraphs.{HasGraphs-cipher}
use Rattle.des_tool.proofs.OneToOne.{IsOneToOne, IsOneToOne-read, HasOneList, HasOneList-each, HasOneList-cbc}

-- what a cipher relates, it relates under a key
IsKey-relation : (cipher : Cipher) (key x y : List ℕ) → relation_of cipher key x y → IsKey (key_size_of cipher) key
IsKey-relation Des key x y related = related.is_key
IsKey-relation Ede3 key x y related = related.0
IsKey-relation Eee3 key x y related = related.0
IsKey-relation Ede2 key x y related = related.0
IsKey-relation Eee2 key x y related = related.0

-- a cipher's relation is one to one
IsOneToOne-cipher : (cipher : Cipher) (key : List ℕ) → IsOneToOne (relation_of cipher key)
IsOneToOne-cipher cipher key =
    let by = λ (x y : List ℕ) (related : relation_of cipher key x y).
    HasGraphs-cipher cipher key (IsKey-relation cipher key x y related) in
    record {
      first_is_block = λ x y related. (((by x y related).encryption x y).0 related).0;
      last_is_block = λ x y related. (((by x y related).decryption y x).0 related).0;
      forwards = λ x y z first second.
          let one = by x y first in
          sym ((one.encryption x y).0 first).1 ∙ ((one.encryption x z).0 second).1;
      backwards = λ x y z first second.
          let one = by x z first in
          sym ((one.decryption z x).0 first).1 ∙ ((one.decryption z y).0 second).1;
    }

-- if lists are related to one, digits have one text
one_text-of : (Relates : List (List ℕ) → List (List ℕ) → Type 0) (digits text other : List ℕ) → HasOneList Relates
    → IsTextOf Relates digits text → IsTextOf Relates digits other → other ≡ text
one_text-of Relates digits text other one first second =
    let same = one second.blocks second.results first.blocks first.results second.related first.related
    (second.joined ∙ sym first.joined) in
    second.written ∙ ap text_of_blocks same ∙ sym first.written

-- a key has one verdict
one_verdict : (key text other : List ℕ) → IsVerdict key text → IsVerdict key other → other ≡ text
one_verdict key text other (inl first) (inl second) = second.1 ∙ sym first.1
one_verdict key text other (inl first) (inr second) = absurd (second.0 first.0)
one_verdict key text other (inr first) (inl second) = absurd (first.0 second.0)
one_verdict key text other (inr first) (inr second) = second.1 ∙ sym first.1

-- a request has one answer
one_text-request : (request : Request) (text other : List ℕ) → AnswersRequest request text
    → AnswersRequest request other → other ≡ text
one_text-request (of_blocks cipher direction key digits) text other first second =
    let Relates : List ℕ → List ℕ → Type 0 = ReadIn direction (relation_of cipher (bytes_of_digits key)) in
    let one = IsOneToOne-read direction _ (IsOneToOne-cipher cipher (bytes_of_digits key)) in
    one_text-of _ digits text other (HasOneList-each Relates one) first second
one_text-request (of_cbc cipher direction key vector digits) text other first second =
    let Relates : List ℕ → List ℕ → Type 0 = relation_of (block_cipher_of cipher) (bytes_of_digits key) in
    let one = IsOneToOne-cipher (block_cipher_of cipher) (bytes_of_digits key) in
    one_text-of _ digits text other (HasOneList-cbc Relates one (bytes_of_digits vector) direction) first second
one_text-request (of_weak key) text other first second = one_verdict (bytes_of_digits key) text other first second

-- and so have arguments
one_text : (request : Option Request) (text other : List ℕ)
    → MatchOption request ⊥ (λ request. AnswersRequest request text)
    → MatchOption request ⊥ (λ request. AnswersRequest request other) → other ≡ text
one_text None text other first second = absurd first
one_text (Some request) text other first second = one_text-request request text other first second

pub IsTheOne-IsAnswer : (arguments : List (List ℕ)) (text : List ℕ) → IsAnswer arguments text
    → IsTheOne (IsAnswer arguments) text
IsTheOne-IsAnswer arguments text answers =
    (answers, λ other others. one_text (request_of arguments) text other answers others)
