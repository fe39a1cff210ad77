pub mod Writes
pub mod Lww
pub mod Tops
pub mod LwwLaws
pub mod Multi
pub mod MultiLaws
