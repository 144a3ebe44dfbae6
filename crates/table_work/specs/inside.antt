pub mod PreloadDone
pub mod TableDone
pub mod RecentInside
pub mod WriterInside
pub mod RowsRead
