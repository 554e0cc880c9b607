pub mod TargetRows
