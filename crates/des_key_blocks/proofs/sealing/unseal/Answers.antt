use Rattle.std.proofs.Common.{◌≡◌, ℕ, List, length, take, sym, subst, ap, ◌∙◌, arith}
use Rattle.std.proofs.lemmas.List.{take_all}
use Rattle.des.specs.Cbc.{Cbc}
use Rattle.des.specs.TripleCiphers.{ede3_encryption}
use Rattle.des_key_blocks.specs.KeyBlocks.{mac_size}
use Rattle.des_key_blocks.proofs.VersionForms.{cbc-in_B, cbc-in_A_or_C}
use Rattle.des_key_blocks.proofs.sealing.unseal.Goals as goal
use Rattle.des_key_blocks.proofs.sealing.unseal.Goals.{in-B, in-A}

pub returns-clause-chained : goal.returns-clause-chained
returns-clause-chained c =
    let encryption : List ℕ → List ℕ = ede3_encryption c.args.keys.now.encryption in
    let header : List ℕ = c.args.header.now in
    let mac : List ℕ = c.args.mac.now in
    let blocks : List (List ℕ) = c.match-version.blocks in
    let sealed : List (List ℕ) = c.args.blocks.now in
    elim c.match-version.branch [
      | in-B w ↦ (
          let whole : length mac ≡ 8 = c.requires.mac ∙ ap mac_size w.in-B.is in
          let vector = w.first_eight.ensures ∙ take_all 8 mac (omega arith) in
          cbc-in_B c.args.version encryption header mac blocks sealed w.in-B.is
          (subst (λ p. Cbc encryption mac p sealed) (sym w.blocks-is)
          (subst (λ iv. Cbc encryption iv w.decrypt_cbc.new.blocks sealed) vector w.decrypt_cbc.ensures)))
      | in-A w ↦
          cbc-in_A_or_C c.args.version encryption header mac blocks sealed w.in-A.is
          (subst (λ p. Cbc encryption (take 8 header) p sealed) (sym w.blocks-is)
          (subst (λ iv. Cbc encryption iv w.decrypt_cbc-in-A.new.blocks sealed) w.first_eight-in-A.ensures
          w.decrypt_cbc-in-A.ensures))
    ]
