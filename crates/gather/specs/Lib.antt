pub mod EventPlaces
