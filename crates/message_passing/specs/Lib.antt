pub mod Studies
