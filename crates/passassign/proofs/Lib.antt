pub mod Common
pub mod making
pub mod slots
pub mod strikes
