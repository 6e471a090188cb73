-- How the line of a block fails.
use Rattle.std.proofs.Common.{◌≡◌, ℕ, None, Result, List}
use Rattle.std.specs.declared.vec.Vec.{Vec}
use Rattle.std.specs.declared.alloc.Global.{Global}
use Rattle.des_key_blocks.specs.declared.key_block_header.Header.{Header}
use Rattle.des_lines.specs.declared.requests.Inputs.{Inputs}
use Rattle.des_lines.specs.declared.requests.Wrapping.{Wrapping}
use Rattle.des_lines.specs.declared.fault.FaultKind.{FaultKind}
use Rattle.des_lines.specs.Texts.{bytes_of}
use Rattle.des_lines.specs.KeyBlockLines.{IsHeaderOf, FailsAsMade, FailsAsWrapped, texts_fault}

module _ (wrapping : Wrapping) (inputs : Inputs) (header : Header) (bytes optional key : List ℕ)
    (is_protection : bytes ≡ bytes_of inputs.key.now) (is_key : key ≡ bytes_of inputs.text.now)
    (is_optional : optional ≡ wrapping.optional.now) (fields : IsHeaderOf wrapping header) where
  pub wrap-fails : (result : Result (Vec ℕ Global) FaultKind) → texts_fault wrapping inputs ≡ None
      → FailsAsMade bytes header optional key inputs.random.now result
      → FailsAsWrapped wrapping inputs result
  wrap-fails result none fails =
      let made = rw (is_protection, is_key, is_optional) at fails in
      rw none (header, (fields, made))
