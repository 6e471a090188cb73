-- Blocks that a function takes to others, and the relation that its graph is.
use Rattle.std.proofs.Common.{◌≡◌, ℕ, List, [], ◌∷◌, map, sym, ◌∙◌}
use Rattle.std.specs.List.{All}
use Rattle.std.proofs.lemmas.List.Elements.{All-head, All-tail}
use Rattle.des.specs.Blocks.{IsKey, IsBlock, AnswersEach}
use Rattle.des.specs.Cbc.{CbcUnder, Cbc, CbcDecrypts}
use Rattle.des.specs.Relations.{TakesBlock, IsGraphOf}
use Rattle.des.proofs.ChainedBlocks.{CbcUnder-weaker, CbcUnder-from_Cbc, CbcUnder-from_CbcDecrypts}
use Rattle.des_tool.specs.declared.command.request.Direction.{Direction}
use Rattle.des_tool.specs.declared.command.request.Direction.TheVariants.{Encrypt, Decrypt}
use Rattle.des_tool.specs.Answer.{IsTextOf, ReadIn}
use Rattle.des_tool.specs.Ciphers.{in_direction, IsMadeBy}

-- functions that agree in both directions agree in the one that is chosen
pub in_direction-same : {X Y : Type 0} (direction : Direction) (e d : X → List ℕ → List ℕ) (f g : Y → List ℕ → List ℕ)
    (x : X) (y : Y)
    (block : List ℕ) → e x block ≡ f y block → d x block ≡ g y block
    → in_direction direction e d x block ≡ in_direction direction f g y block
in_direction-same Encrypt e d f g x y block encrypts decrypts = encrypts
in_direction-same Decrypt e d f g x y block encrypts decrypts = decrypts

-- g takes blocks to those that f takes them to under the key, if the two agree on blocks
pub AnswersEach-map : (f : List ℕ → List ℕ → List ℕ) (size : ℕ) (key : List ℕ) (g : List ℕ → List ℕ)
    (blocks : List (List ℕ))
    → IsKey size key → All IsBlock blocks → ((block : List ℕ) → IsBlock block → g block ≡ f key block)
    → AnswersEach (IsMadeBy f size key) blocks (map g blocks)
AnswersEach-map f size key g [] is_key are_blocks agrees = tt
AnswersEach-map f size key g (block ∷ blocks) is_key are_blocks agrees =
    let is_block = All-head IsBlock block blocks are_blocks in (
      record { is_key = is_key; is_block = is_block; made = sym (agrees block is_block) },
      AnswersEach-map f size key g blocks is_key (All-tail IsBlock block blocks are_blocks) agrees,
    )

-- what is made of a block is related to it, if the relation has the graphs of the two functions, one from each end
ReadIn-made : (direction : Direction) (e d : List ℕ → List ℕ → List ℕ) (size : ℕ) (key : List ℕ)
    (Relates : List ℕ → List ℕ → Type 0)
    → (IsKey size key → IsGraphOf (e key) Relates) → (IsKey size key → IsGraphOf (d key) (λ y x. Relates x y))
    → (block result : List ℕ) → IsMadeBy (in_direction direction e d) size key block result
    → ReadIn direction Relates block result
ReadIn-made Encrypt e d size key Relates encrypts decrypts block result by =
    (encrypts by.is_key block result).1 (by.is_block, by.made)
ReadIn-made Decrypt e d size key Relates encrypts decrypts block result by =
    (decrypts by.is_key block result).1 (by.is_block, by.made)

-- blocks under a relation are blocks under a weaker one
AnswersEach-weaker : (P Q : List ℕ → List ℕ → Type 0) (blocks results : List (List ℕ))
    → ((x y : List ℕ) → P x y → Q x y) → AnswersEach P blocks results → AnswersEach Q blocks results
AnswersEach-weaker P Q [] [] weaker each = tt
AnswersEach-weaker P Q [] (y ∷ ys) weaker each = each
AnswersEach-weaker P Q (x ∷ xs) [] weaker each = each
AnswersEach-weaker P Q (x ∷ xs) (y ∷ ys) weaker each = (weaker x y each.0, AnswersEach-weaker P Q xs ys weaker each.1)

-- a text of blocks under a relation of lists is one under a weaker one
IsTextOf-weaker : (P Q : List (List ℕ) → List (List ℕ) → Type 0) (digits text : List ℕ)
    → ((xs ys : List (List ℕ)) → P xs ys → Q xs ys) → IsTextOf P digits text → IsTextOf Q digits text
IsTextOf-weaker P Q digits text weaker of = record {
  blocks = of.blocks;
  results = of.results;
  joined = of.joined;
  related = weaker of.blocks of.results of.related;
  written = of.written;
}

-- a text of what is made of blocks is one of blocks under that relation
pub IsTextOf-made : (direction : Direction) (e d : List ℕ → List ℕ → List ℕ) (size : ℕ) (key : List ℕ)
    (Relates : List ℕ → List ℕ → Type 0)
    → (IsKey size key → IsGraphOf (e key) Relates) → (IsKey size key → IsGraphOf (d key) (λ y x. Relates x y))
    → (digits text : List ℕ) → IsTextOf (AnswersEach (IsMadeBy (in_direction direction e d) size key)) digits text
    → IsTextOf (AnswersEach (ReadIn direction Relates)) digits text
IsTextOf-made direction e d size key Relates encrypts decrypts digits text =
    IsTextOf-weaker _ _ digits text (λ blocks results. AnswersEach-weaker _ _ blocks results
    (ReadIn-made direction e d size key Relates encrypts decrypts))

-- what the calls of CBC make of a list, in a direction, is CBC by what the key encrypts to
pub ReadIn-cbc : (direction : Direction) (e d : List ℕ → List ℕ) (f : List ℕ → List ℕ → List ℕ) (size : ℕ)
    (key iv : List ℕ)
    (blocks results : List (List ℕ)) → IsKey size key → IsBlock iv → All IsBlock blocks
    → ((block : List ℕ) → IsBlock block → IsBlock (e block)) → ((block : List ℕ) → IsBlock block → IsBlock (d block))
    → ((block : List ℕ) → IsBlock block → e (d block) ≡ block)
    → ((block : List ℕ) → IsBlock block → e block ≡ f key block)
    → in_direction direction (Cbc e) (CbcDecrypts d) iv blocks results
    → ReadIn direction (CbcUnder (IsMadeBy f size key) iv) blocks results
ReadIn-cbc Encrypt e d f size key iv blocks results is_key is_iv are_blocks encrypts decrypts undoes agrees
    chained =
    CbcUnder-weaker (TakesBlock e) (IsMadeBy f size key) iv blocks results
    (λ x y taken. record { is_key = is_key; is_block = taken.0; made = sym (agrees x taken.0) ∙ taken.1 })
    (CbcUnder-from_Cbc e iv blocks results is_iv are_blocks encrypts chained)
ReadIn-cbc Decrypt e d f size key iv blocks results is_key is_iv are_blocks encrypts decrypts undoes agrees
    chained =
    CbcUnder-weaker (TakesBlock e) (IsMadeBy f size key) iv results blocks
    (λ x y taken. record { is_key = is_key; is_block = taken.0; made = sym (agrees x taken.0) ∙ taken.1 })
    (CbcUnder-from_CbcDecrypts e d iv results blocks is_iv are_blocks decrypts undoes chained)

-- a weaker relation of lists is weaker in either direction
ReadIn-weaker : (direction : Direction) (P Q : List (List ℕ) → List (List ℕ) → Type 0)
    → ((p q : List (List ℕ)) → P p q → Q p q)
    → (blocks results : List (List ℕ)) → ReadIn direction P blocks results → ReadIn direction Q blocks results
ReadIn-weaker Encrypt P Q weaker blocks results related = weaker blocks results related
ReadIn-weaker Decrypt P Q weaker blocks results related = weaker results blocks related

-- a text of CBC by what the key encrypts to is one of CBC under the relation whose graph this is
pub IsTextOf-cbc : (direction : Direction) (e : List ℕ → List ℕ → List ℕ) (size : ℕ) (key iv : List ℕ)
    (Relates : List ℕ → List ℕ → Type 0) → (IsKey size key → IsGraphOf (e key) Relates) → (digits text : List ℕ)
    → IsTextOf (ReadIn direction (CbcUnder (IsMadeBy e size key) iv)) digits text
    → IsTextOf (ReadIn direction (CbcUnder Relates iv)) digits text
IsTextOf-cbc direction e size key iv Relates encrypts digits text =
    IsTextOf-weaker _ _ digits text (ReadIn-weaker direction (CbcUnder (IsMadeBy e size key) iv) (CbcUnder Relates iv)
    (λ p q. CbcUnder-weaker (IsMadeBy e size key) Relates iv p q
    (λ x y by. (encrypts by.is_key x y).1 (by.is_block, by.made))))
