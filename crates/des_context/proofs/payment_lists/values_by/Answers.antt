use Rattle.std.proofs.Common.{ap, ◌∙◌, sym, List, ℕ, map, take, replicate}
use Rattle.std.proofs.lemmas.Simd.{map-map}
use Rattle.des_context.specs.CipherTypes.{encryption_of}
use Rattle.des_context.proofs.KeysOfBytes.{mapped-same}
use Rattle.des_context.proofs.payment_lists.values_by.Goals as goal

pub returns-in-Ok-clause-values : goal.returns-in-Ok-clause-values
returns-in-Ok-clause-values g c done =
    let value : (List ℕ → List ℕ → List ℕ) → List ℕ → List ℕ = λ by key. take 3 (by key (replicate 8 0)) in
    c.in-Ok.ensures.ok ∙ sym (map-map (value g.C.KeyedCipher.encryption) _ _)
    ∙ ap (map (value g.C.KeyedCipher.encryption)) c.keys_in.ensures
    ∙ mapped-same g.C.KeySizeUser.KEY_SIZE (value g.C.KeyedCipher.encryption) (value encryption_of)
    (λ key size. ap (λ by. take 3 (by (replicate 8 0))) (g.met.C.ContextCipher.by_length key size).0) c.args.keys.now
