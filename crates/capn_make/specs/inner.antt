-- Definitions that are not used in the contract of any public function.
pub mod SinkRun
pub mod RunParts
pub mod TextsParts
