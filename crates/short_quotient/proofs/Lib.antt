pub mod TenBits
