-- The names of the faults of key blocks.
use Rattle.std.specs.Prelude.{ℕ, List, codes}
use Rattle.des_key_blocks.specs.declared.key_block_error.KeyBlockError.{KeyBlockError}
use Rattle.des_key_blocks.specs.declared.key_block_error.KeyBlockError.TheVariants.{ProtectionKeyLength, Length, Version, Header, OptionalBlock, DataLength, Digit, Mac, KeyLength, PaddingLength}

-- the name that `Display` writes
abbrev pub name_of : KeyBlockError → List ℕ
name_of ProtectionKeyLength = codes "ProtectionKeyLength"
name_of Length = codes "Length"
name_of Version = codes "Version"
name_of Header = codes "Header"
name_of OptionalBlock = codes "OptionalBlock"
name_of DataLength = codes "DataLength"
name_of Digit = codes "Digit"
name_of Mac = codes "Mac"
name_of KeyLength = codes "KeyLength"
name_of PaddingLength = codes "PaddingLength"
