pub mod FeatureBits
pub mod Formats
pub mod Masks
pub mod Decoding
pub mod RangeFields
