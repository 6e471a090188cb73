use Rattle.std.proofs.Common.{◌≡◌, ℕ, List, ◌++◌, take, replicate, codes, refl, sym, ap, ◌∙◌, append_assoc}
use Rattle.des_payment.specs.KeyLengths.{encryption_by}
use Rattle.des_key_blocks.specs.declared.key_block_header.Algorithm.{Algorithm}
use Rattle.des_key_blocks.specs.declared.key_block_header.Algorithm.TheVariants.{Des, TripleDes, OtherAlgorithm}
use Rattle.des_lines.specs.KeyBlockLines.{check_lines}
use Rattle.des_lines.specs.Texts.{hex_line}
use Rattle.des_lines.proofs.key_block_lines.add_check_value.Goals as goal

-- what is no other algorithm is DES or triple DES
check-named : (algorithm : Algorithm) (key : List ℕ) → ((character : ℕ) → algorithm ≡ OtherAlgorithm character → ⊥)
    → check_lines algorithm key ≡ codes "check-value " ++ hex_line (take 3 (encryption_by key (replicate 8 0)))
check-named Des key other = refl
check-named TripleDes key other = refl
check-named (OtherAlgorithm character) key other = absurd (other character refl)

pub returns-in_ok-extend_from_slice-in_default-2 : goal.returns-in_ok-extend_from_slice-in_default-2
returns-in_ok-extend_from_slice-in_default-2 c =
    let start = c.args.lines.now.items in
    let value : List ℕ = take 3 (encryption_by c.args.key.now (replicate 8 0)) in
    let same : c.unwrap-value.result ≡ value = rw c.unwrap-value.ensures at c.key_check_value.ensures.value in
    let line = c.as_slice.ensures.value ∙ c.in_ok-line-in_default.ensures ∙ ap hex_line same in
    let named = check-named c.args.algorithm c.args.key.now c.in_default.not-OtherAlgorithm in
    record {
      fault = tt;
      line =
          c.in_ok-extend_from_slice-in_default-2.ensures.items
          ∙ ap (λ (text : List ℕ). c.extend_from_slice.new.self.items ++ text) line
          ∙ ap (λ (text : List ℕ). text ++ hex_line value) c.in_ok-extend_from_slice-in_default.ensures.items
          ∙ append_assoc start (codes "check-value ") (hex_line value)
          ∙ ap (λ (text : List ℕ). start ++ text) (sym named);
    }
