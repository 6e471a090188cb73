pub mod Faults
pub mod Verdicts
pub mod Components
pub mod KeyVerdicts
pub mod OptionalLines
pub mod WrapFaults
pub mod UnwrapFaults
pub mod Prefixes
