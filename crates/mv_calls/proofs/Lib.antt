pub mod FitsLaws
pub mod ItemsLaws
pub mod RoomLaws
