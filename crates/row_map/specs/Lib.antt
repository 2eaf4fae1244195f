pub mod RoomyMap
