pub mod Connect
