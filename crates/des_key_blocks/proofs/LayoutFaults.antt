-- A fault of a header is one that shows without a key.
use Rattle.std.proofs.Common.{◌≡◌, ℕ, List, Bool, true, false, Some, None, subst}
use Rattle.std.specs.Prelude.{not, if◌then◌else◌, slice_index}
use Rattle.std.proofs.lemmas.Option.{same_Some}
use Rattle.des_key_blocks.specs.KeyBlockHeaders.{is_long, is_version, has_ending, header_fault}
use Rattle.des_key_blocks.specs.KeyBlockReading.{HasLayoutFault}
use Rattle.des_key_blocks.specs.declared.key_block_error.KeyBlockError.{KeyBlockError}
use Rattle.des_key_blocks.specs.declared.key_block_error.KeyBlockError.TheVariants.{ProtectionKeyLength, Length, Version, Header, OptionalBlock, DataLength, Digit, Mac, KeyLength, PaddingLength}

IsOfHeader : KeyBlockError → Type 0
IsOfHeader Length = Unit {0}
IsOfHeader Version = Unit {0}
IsOfHeader Header = Unit {0}
IsOfHeader _ = ⊥

of-header : (long version count : Bool) (error : KeyBlockError)
    → (if not long then Some Length else if not version then Some Version else if not count then Some Header else None)
    ≡ Some error
    → IsOfHeader error
unfolding IsOfHeader
of-header false version count error is = subst IsOfHeader (same_Some Length error is) tt
of-header true false count error is = subst IsOfHeader (same_Some Version error is) tt
of-header true true false error is = subst IsOfHeader (same_Some Header error is) tt
of-header true true true error is = absurd (cc is)

other : (block : List ℕ) (error : KeyBlockError) → header_fault block ≡ Some error → IsOfHeader error
other block error is = of-header (is_long block) (is_version (slice_index block 0)) (has_ending block) error is

pub layout-fault : (block : List ℕ) (error : KeyBlockError) → header_fault block ≡ Some error
    → HasLayoutFault block error
unfolding IsOfHeader
layout-fault block Length is = is
layout-fault block Version is = is
layout-fault block Header is = is
layout-fault block ProtectionKeyLength is = other block ProtectionKeyLength is
layout-fault block OptionalBlock is = absurd (other block OptionalBlock is)
layout-fault block DataLength is = absurd (other block DataLength is)
layout-fault block Digit is = other block Digit is
layout-fault block Mac is = other block Mac is
layout-fault block KeyLength is = other block KeyLength is
layout-fault block PaddingLength is = other block PaddingLength is
