use Rattle.std.proofs.Common.{◌≡◌, [], drop, false, string_bytes}
use Rattle.des_commands.specs.PrivateKeys.{arcs_after}
use Rattle.des_commands.proofs.private_keys.object_identifier.Given as goal

-- the octets that are left give what all give
abbrev pub invariant-octets : goal.invariant-octets
invariant-octets l =
    arcs_after (string_bytes l.text) l.number l.is_whole (drop l.byte-index l.contents)
    ≡ arcs_after [] 0 false l.contents
