pub mod FailedCallLaws
pub mod FloorLaws
pub mod LateLemmas
pub mod LoadLemmas
pub mod NumberLaws
pub mod SlotLemmas
pub mod StepLaws
pub mod UptimeLaws
