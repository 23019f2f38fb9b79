pub mod Types
pub mod Typing
pub mod Faults
pub mod OperandStack
pub mod ControlFrames
pub mod Views
pub mod Valid
pub mod Checks
