pub mod Pull
