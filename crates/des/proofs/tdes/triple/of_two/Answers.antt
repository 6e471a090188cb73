use Rattle.std.proofs.Common.{false}
use Rattle.des.proofs.TripleGraphs.{HasGraphs-Triple}
use Rattle.des.proofs.tdes.triple.of_two.Goals as goal

-- the key answers by the relation, since its length is right
pub returns : goal.returns
returns g c key is_key first second =
    let by = HasGraphs-Triple false g.F.Form.DECIPHERS_SECOND key is_key in
    ((is_key, first, second, first), (by.encryption, by.decryption))
