-- The halves make up the keys.
use Rattle.std.proofs.Common.{ℕ, ◌≤◌, List, length, ◌∙◌, arith, length-take-le}
use Rattle.des_mac.proofs.Accepted.{from_ok}
use Rattle.des_context.proofs.JoinedParts.{joined_halves}
use Rattle.des_context.proofs.mac_lists.write_retail_group.Goals as goal

pub returns : goal.returns
returns g c =
    let keys : List (List ℕ) = c.args.keys.now in
    let in_first : length keys ≤ length c.key_halves-first.result = omega arith in
    let in_second : length keys ≤ length c.key_halves-second.result = omega arith in
    let joined = joined_halves keys c.key_halves-first.result c.key_halves-second.result in_first in_second c.told-keys
    c.key_halves-first.ensures c.key_halves-second.ensures in
    rw joined at (from_ok c.retail_macs_each_by.result (c.retail_macs_each_by.ensures.accepted.1 (
      length-take-le (length keys) _ in_first ∙ c.requires.as_tags,
      length-take-le (length keys) _ in_second ∙ c.requires.as_tags,
      c.requires.as_messages,
    )) c.retail_macs_each_by.ensures.tags)
