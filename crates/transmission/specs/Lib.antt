pub mod View2A
