use Rattle.std.proofs.Common.{true}
use Rattle.des.proofs.TripleGraphs.{HasGraphs-Triple}
use Rattle.des.proofs.tdes.triple.of_three.Goals as goal

-- the key answers by the relation, since its length is right
pub returns-clause-made : goal.returns-clause-made
returns-clause-made g c key is_key first second third =
    let by = HasGraphs-Triple true g.F.Form.DECIPHERS_SECOND key is_key in
    ((is_key, first, second, third), (by.encryption, by.decryption))
