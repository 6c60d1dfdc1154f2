pub mod Orders
pub mod Winner
