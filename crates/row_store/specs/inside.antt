pub mod Vouchers
pub mod Places
pub mod Views
pub mod ReaderInside
pub mod StoreInside
