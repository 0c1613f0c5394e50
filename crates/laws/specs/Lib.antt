pub mod RootNearest
pub mod Worked
pub mod InOrder
pub mod HalfDigits
pub mod Cut
pub mod ModulusNearest
pub mod Reflections
