pub mod NetConsole
pub mod NetKernel
