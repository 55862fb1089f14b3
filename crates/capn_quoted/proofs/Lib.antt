pub mod shared
mod ClearTexts
mod Readings
mod Fronts
mod Shapes
mod CodePoints
mod ReadBack
mod LowRead
mod OneRead
mod TextsRead
mod Taken
mod NumbersTaken
mod BytesOfPoint
mod Taking
mod Takes
