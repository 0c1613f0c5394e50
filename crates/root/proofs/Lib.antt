pub mod RootBits
