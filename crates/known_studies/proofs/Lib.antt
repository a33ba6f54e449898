pub mod HandOver
