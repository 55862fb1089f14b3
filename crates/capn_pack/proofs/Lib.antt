pub mod shared
mod TagLemmas
mod WeightLemmas
mod RunLemmas
mod PutLemmas
mod SpanLemmas
mod WordLemmas
mod FirstLemmas
mod LaneLemmas
mod RowLemmas
mod WholeGroupLemmas
mod StartLemmas
mod Cuttings
pub mod PackedRows
