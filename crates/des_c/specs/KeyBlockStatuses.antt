-- The statuses of the faults of key blocks.
use Rattle.std.specs.Prelude.{ℤ}
use Rattle.des_context.specs.declared.status.TheConstants
use Rattle.des_key_blocks.specs.declared.key_block_error.KeyBlockError.{KeyBlockError}
use Rattle.des_key_blocks.specs.declared.key_block_error.KeyBlockError.TheVariants

abbrev pub status_of : KeyBlockError → ℤ
status_of TheVariants.ProtectionKeyLength = TheConstants.ERR_PROTECTION_KEY_LENGTH
status_of TheVariants.Length = TheConstants.ERR_KEY_BLOCK_LENGTH
status_of TheVariants.Version = TheConstants.ERR_VERSION
status_of TheVariants.Header = TheConstants.ERR_HEADER
status_of TheVariants.OptionalBlock = TheConstants.ERR_OPTIONAL_BLOCK
status_of TheVariants.DataLength = TheConstants.ERR_KEY_DATA_LENGTH
status_of TheVariants.Digit = TheConstants.ERR_KEY_BLOCK_DIGIT
status_of TheVariants.Mac = TheConstants.ERR_KEY_BLOCK_MAC
status_of TheVariants.KeyLength = TheConstants.ERR_KEY_LENGTH
status_of TheVariants.PaddingLength = TheConstants.ERR_PADDING_LENGTH
