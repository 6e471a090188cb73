use Rattle.des.proofs.ByteArrays.{IsKey-array}
use Rattle.des.proofs.ParityBits.{AgreeOutsideParity-masked}
use Rattle.des.proofs.KeySelections.{key_schedule-agreeing, AgreeOutsideParity-key_schedule}
use Rattle.des.proofs.AgreeingKeys.{Enciphers-agreeing, Ede3-first_parts_agree, Ede3-last_parts_agree}
use Rattle.des.proofs.weak_key.equal_but_parity.Goals as goal

pub returns : goal.returns
returns c =
    let a = c.args.first.now in
    let b = c.args.second.now in
    let a_key = IsKey-array 8 a c.told-first c.fits-first in
    let b_key = IsKey-array 8 b c.told-second c.fits-second in
    let agree =
    AgreeOutsideParity-masked a b c.from_be_bytes.result c.from_be_bytes-2.result a_key b_key c.from_be_bytes.ensures
    c.from_be_bytes-2.ensures in
    record {
      agree = agree;
      same_round_keys = (
        λ equal. key_schedule-agreeing a b (agree.0 equal),
        λ same. agree.1 (AgreeOutsideParity-key_schedule a b same),
      );
      same_relation = λ equal x y. Enciphers-agreeing a b x y a_key b_key (agree.0 equal);
      first_parts_undone = λ equal key x y. Ede3-first_parts_agree a b key x y a_key b_key (agree.0 equal);
      last_parts_undone = λ equal key x y. Ede3-last_parts_agree key a b x y a_key b_key (agree.0 equal);
    }
