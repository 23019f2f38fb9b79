pub mod FloatFree
