-- The lanes answer under the keys.
use Rattle.std.proofs.Common.{◌≡◌, ℕ, ◌+◌, ◌-◌, List, [], get_or, length, take, drop, ap, ◌∙◌, arith, length-take-le}
use Rattle.std.proofs.lemmas.List.{length-drop, get_or-take, get_or-drop}
use Rattle.des_fast.proofs.many.records.cbc_decrypt_part.Goals as goal

pub returns-clause-cbc_decrypted : goal.returns-clause-cbc_decrypted
returns-clause-cbc_decrypted g c decryption first q are below =
    let from : ℕ = c.args.span.from in
    let w : ℕ = from + c.args.span.count - from in
    let old : List (List ℕ) = c.args.blocks.now in
    let part : List (List ℕ) = take w (drop from old) in
    let in_part : length part ≡ w =
    length-take-le w (drop from old) (omega (arith, length-drop from old, c.requires.within)) in
    c.take_out.ensures.cbc_decrypted decryption first q
    (λ k low.
    c.write_processed.ensures k (omega (arith, in_part))
    ∙ ap (λ (answer : List ℕ → List ℕ). answer (get_or part k [])) (are k (omega (arith, c.requires.few)))
    ∙ ap decryption (get_or-take w (drop from old) k [] (omega arith) ∙ get_or-drop from old k []))
    below
